use Rattle.std.proofs.Common.{List, ℕ, take, sym, subst}
use Rattle.timew_month.proofs.MonthTexts.{AreOf}
use Rattle.timew_interval.proofs.RowsByIndex.{row_at}
use Rattle.timew_month.proofs.write.month_texts.first_month.Goals as goal

pub is_in_month-requires : goal.is_in_month-requires
is_in_month-requires c = (row_at c.args.rows.now c.loop-count.count c.index-rows-count.result c.requires.are c.loop-count-test.true c.index-rows-count.is).start

pub put_row-requires-in-loop-count : goal.put_row-requires-in-loop-count
put_row-requires-in-loop-count c = row_at c.args.rows.now c.loop-count.count c.index-rows-count-in-loop-count.result c.requires.are c.loop-count-test.true c.index-rows-count-in-loop-count.is

pub returns-clause-month : goal.returns-clause-month
returns-clause-month c = record {
  of = subst (λ (l : List ℕ). AreOf l (take c.loop-count.count c.args.rows.now)) (sym c.in_ok-name.ensures) c.loop-count.invariant.2.1;
  text = c.loop-count.invariant.2.0;
  writable = c.loop-count.invariant.2.2;
}
