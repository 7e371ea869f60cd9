use Rattle.std.proofs.Common.{◌+◌, [], ◌∷◌, ◌++◌, drop, sym, ap, ◌∙◌, arith}
use Rattle.timew_interval.specs.declared.interval.Interval.{Interval}
use Rattle.timew_cmd.specs.Numbers.{numbered, without, rows_in}
use Rattle.timew_cmd.proofs.Window.{others_more, others_less}
use Rattle.timew_cmd.proofs.numbers.others_within.Goals as goal
use Rattle.timew_cmd.proofs.numbers.others_within.Goals.{then-not-has+in_ok-copy_row+in_ok-push, else-not-has}

pub loop-k-preserved : goal.loop-k-preserved
loop-k-preserved c =
    let ids = c.args.ids.now.given.now in
    let rows = c.args.rows.now in
    elim c.if-not-has.branch [
      | then-not-has+in_ok-copy_row+in_ok-push w ↦ others_more ids rows c.loop-k.k w.index-rows-k.result c.loop-k.others.items c.if-not-has.others.items _ (omega arith) w.index-rows-k.is (sym c.has.ensures ∙ w.if-not-has.true)
          (ap (λ v. v.items) w.others-is ∙ w.in_ok-push.ensures.items ∙ ap (λ (r : Interval). c.loop-k.others.items ++ r ∷ []) w.in_ok-copy_row.ensures) c.loop-k.invariant
      | else-not-has w ↦ ap (λ v. v.items ++ rows_in (without ids (numbered (drop (c.loop-k.k + 1) rows)))) w.others-is
          ∙ others_less ids rows c.loop-k.k c.loop-k.others.items _ (sym c.has.ensures ∙ w.if-not-has.false) c.loop-k.invariant
    ]
