use Rattle.std.proofs.Common.{◌≡◌, ◌∙◌, ◌∷◌, ◌+◌, ap, sym, cond, drop, Some, rules}
use Rattle.std.proofs.lemmas.List.{at_drop_more, at_drop_all}
use Rattle.tw_urgency.proofs.Reaching.{nothing_is_closed}
use Rattle.tw_changes.specs.Circles.{Gain, first_closing}
use Rattle.tw_changes.proofs.circles.first_circle.Goals as goal

pub loop-uuid-init : goal.loop-uuid-init
loop-uuid-init c = record {
  left = search rules;
  closed = nothing_is_closed c.args.tasks.now c.new-known.result c.new-known.ensures.empty;
}

pub loop-uuid-preserved : goal.loop-uuid-preserved
loop-uuid-preserved c =
    let gain : Gain = c.loop-uuid-item.result in
    let items = c.deref-uuid-items.result.now in
    let rest = drop (c.loop-uuid.uuid-index + 1) items in
    record {
      left = ap (λ b. cond b (Some gain.1) (first_closing c.args.tasks.now rest)) (sym c.if-branch.false ∙ c.in_ok-closes.ensures.closes)
          ∙ sym (at_drop_more (first_closing c.args.tasks.now) items c.loop-uuid.uuid-index gain c.loop-uuid-test.true ∙ (λ k. first_closing c.args.tasks.now (sym c.loop-uuid-item.is k ∷ rest)))
          ∙ c.loop-uuid.invariant.left;
      closed = c.in_ok-closes.ensures.closed;
    }

pub returns : goal.returns
returns c = sym (at_drop_all (first_closing c.args.tasks.now) c.deref-uuid-items.result.now c.loop-uuid.uuid-index c.loop-uuid-test.false) ∙ c.loop-uuid.invariant.left
