use Rattle.std.proofs.Common.{◌≡◌, ◌+◌, ◌<◌, ◌∙◌, ◌∷◌, [], ℕ, List, length, drop, get_or, arith, sym, ap, subst, refl}
use Rattle.std.proofs.lemmas.List.{drop_all}
use Rattle.tw_model.specs.Ops.{apply, apply_all}
use Rattle.tw_model.specs.declared.SyncOp.{SyncOp}
use Rattle.tw_path.specs.Presence.{Tells}
use Rattle.tw_path.proofs.Turns.{at_turn}
use Rattle.tw_path.proofs.walker.apply_sent.Goals as goal

pub loop-at-init : goal.loop-at-init
loop-at-init c = (refl, λ hand other tells. (other, tells, refl))

pub loop-at-preserved : goal.loop-at-preserved
loop-at-preserved c =
    let ops : List SyncOp = c.args.ops.now.items in
    let at : ℕ = c.loop-at.at in
    let op : SyncOp = c.index-op.result.now in
    let inside : at < length ops = omega (arith, c.loop-at-test.true) in
    let is : op ≡ get_or ops at op = c.index-op.ensures in
    let split : drop at ops ≡ op ∷ drop (at + 1) ops = at_turn ops at op inside is in (
      ap (λ w. apply_all w (drop (at + 1) ops)) c.in_ok-apply_sync.ensures.ok ∙ ap (apply_all c.loop-at.tasks) (sym split) ∙ c.loop-at.invariant.0,
      λ hand other tells.
          let h = c.loop-at.invariant.1 hand other tells in
          (apply h.0 op, c.in_ok-follow.ensures hand h.0 h.1, ap (apply_all h.0) (sym split) ∙ h.2),
    )

pub returns-clause-tasks : goal.returns-clause-tasks
returns-clause-tasks c =
    let none : drop c.loop-at.at c.args.ops.now.items ≡ [] = drop_all c.loop-at.at c.args.ops.now.items (omega (arith, c.loop-at-test.false)) in
    ap (apply_all c.loop-at.tasks) (sym none) ∙ c.loop-at.invariant.0

pub returns-clause-there : goal.returns-clause-there
returns-clause-there c = λ hand other tells.
    let none : drop c.loop-at.at c.args.ops.now.items ≡ [] = drop_all c.loop-at.at c.args.ops.now.items (omega (arith, c.loop-at-test.false)) in
    let h = c.loop-at.invariant.1 hand other tells in
    subst (Tells c.loop-at.there hand) (ap (apply_all h.0) (sym none) ∙ h.2) h.1
