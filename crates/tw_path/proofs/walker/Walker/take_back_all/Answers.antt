use Rattle.std.proofs.Common.{◌≡◌, ◌+◌, ◌-◌, ◌<◌, ◌∷◌, ◌∙◌, ℕ, List, length, drop, get_or, arith, sym, subst, refl}
use Rattle.std.proofs.lemmas.List.{drop_all}
use Rattle.tw_model.specs.declared.Op.{Op}
use Rattle.tw_path.specs.Walk.{IsBefore}
use Rattle.tw_path.proofs.Turns.{at_turn}
use Rattle.tw_path.proofs.walker.Walker.take_back_all.Goals as goal

pub loop-at-init : goal.loop-at-init
loop-at-init c =
    let ops : List Op = c.args.ops.now.items in
    (omega (arith, c.len-at.ensures), subst (λ (xs : List Op). IsBefore c.args.hand.now xs c.args.self.now) (sym (drop_all c.len-at.result ops (omega (arith, c.len-at.ensures)))) c.requires, refl, refl)

pub index-requires : goal.index-requires
index-requires c = omega (arith, c.loop-at.invariant.0, c.loop-at-test.true)

pub loop-at-preserved : goal.loop-at-preserved
loop-at-preserved c =
    let ops : List Op = c.args.ops.now.items in
    let at : ℕ = c.loop-at.at - 1 in
    let op : Op = c.index.result.now in
    let inside : at < length ops = omega (arith, c.loop-at.invariant.0, c.loop-at-test.true) in
    let is : op ≡ get_or ops at op = c.index.ensures in
    let next : at + 1 ≡ c.loop-at.at = omega (arith, c.loop-at-test.true) in
    let split : drop at ops ≡ op ∷ drop (at + 1) ops = at_turn ops at op inside is in
    let here : IsBefore c.args.hand.now (drop (at + 1) ops) c.loop-at.self = subst (λ n. IsBefore c.args.hand.now (drop n ops) c.loop-at.self) (sym next) c.loop-at.invariant.1 in (
      omega (arith, c.loop-at.invariant.0),
      subst (λ (xs : List Op). IsBefore c.args.hand.now xs c.take_back.new.self) (sym split) (c.in_ok-take_back.ensures.before (drop (at + 1) ops) here),
      c.take_back.ensures.at ∙ c.loop-at.invariant.2,
      c.take_back.ensures.carried ∙ c.loop-at.invariant.3,
    )
