use Rattle.std.proofs.Common.{◌≡◌, ◌<◌, ◌∙◌, [], ℕ, List, length, drop, get_or, arith, sym, ap, subst}
use Rattle.std.proofs.lemmas.List.{drop_all}
use Rattle.tw_model.specs.declared.SyncOp.{SyncOp}
use Rattle.tw_path.specs.Over.{over, over_all}
use Rattle.tw_path.specs.Walk.{StandsAt}
use Rattle.tw_path.proofs.Turns.{at_turn}
use Rattle.tw_path.proofs.walker.Walker.go_over_all.Goals as goal

pub loop-at-preserved : goal.loop-at-preserved
loop-at-preserved c = λ r s.
    let ops : List SyncOp = c.args.ops.now.items in
    let at : ℕ = c.loop-at.at in
    let op : SyncOp = c.index.result.now in
    let inside : at < length ops = omega (arith, c.loop-at-test.true) in
    let is : op ≡ get_or ops at op = c.index.ensures in
    let h = c.loop-at.invariant r s in (
      over h.0 op,
      c.in_ok-go_over.ensures h.0 h.1,
      ap (over_all h.0) (sym (at_turn ops at op inside is)) ∙ h.2,
    )

pub returns : goal.returns
returns c = λ r s.
    let ops : List SyncOp = c.args.ops.now.items in
    let h = c.loop-at.invariant r s in
    let none : drop c.loop-at.at ops ≡ [] = drop_all c.loop-at.at ops (omega (arith, c.loop-at-test.false)) in
    subst (λ x. StandsAt c.args.hand.now x c.loop-at.self) (ap (over_all h.0) (sym none) ∙ h.2) h.1
