use Rattle.std.proofs.Common.{length}
use Rattle.tw_text.proofs.table.+push_line.Given as goal

abbrev pub decreases-push_line : goal.decreases-push_line
decreases-push_line l = length l.columns.now
