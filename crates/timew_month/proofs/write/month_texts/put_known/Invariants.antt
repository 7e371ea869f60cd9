use Rattle.std.proofs.Common.{◌≡◌, ◌≤◌, ◌-◌, length}
use Rattle.timew_month.specs.Known.{part}
use Rattle.timew_month.specs.MonthTexts.{texts_of}
use Rattle.timew_month.proofs.MonthTexts.{AreTexts}
use Rattle.timew_month.proofs.write.month_texts.put_known.Given as goal

abbrev pub invariant-loop-rest : goal.invariant-loop-rest
invariant-loop-rest l = AreTexts (texts_of l.fn.texts.items) (texts_of l.texts.items) l.rest l.rows × (length l.rest ≤ l.end) × (l.rest ≡ part (l.end - length l.rest) (length l.rest) l.months.rows)

abbrev pub decreases-loop-rest : goal.decreases-loop-rest
decreases-loop-rest l = length l.rest
