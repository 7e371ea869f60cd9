use Rattle.std.proofs.Common.{◌≡◌, ℕ, ◌+◌, ◌-◌, length, sym, subst, ◌∙◌, arith}
use Rattle.timew_cmd.specs.Numbers.{NoneAmong}
use Rattle.timew_cmd.proofs.NumbersFound.{none_behind}
use Rattle.timew_cmd.proofs.PlacedAside.{behind_more}
use Rattle.timew_cmd.proofs.neighbours.first_behind.Goals as goal

pub loop-at-preserved : goal.loop-at-preserved
loop-at-preserved c =
    let ids = c.args.ids.now.given.now in
    let more : length c.args.rows.now - c.loop-at.at + 1 ≡ length c.args.rows.now - (c.loop-at.at - 1) = omega arith in
    record {
      enough = omega arith;
      inside = omega arith;
      behind = behind_more c.args.new.now c.args.rows.now c.loop-at.at c.index-rows-at.result (omega arith) (omega arith) c.index-rows-at.is (sym c.stands_behind.ensures ∙ c.if-stands_behind.true) c.loop-at.invariant.behind;
      others = subst (λ (n : ℕ). NoneAmong ids 0 n) more (none_behind ids (length c.args.rows.now - c.loop-at.at) c.loop-at.invariant.others (sym c.has.ensures ∙ c.if-not-has.true));
    }
