-- the rows so far and those of what is left are all
use Rattle.std.proofs.Common.{◌≡◌, ◌++◌, drop}
use Rattle.tw_commands.specs.Reports.{rows_of}
use Rattle.tw_commands.proofs.commands.report.rows_of.Given as goal

abbrev pub invariant-loop-uuid : goal.invariant-loop-uuid
invariant-loop-uuid l = l.rows.items ++ rows_of l.report l.tasks l.now (drop l.uuid-index l.selected.items) ≡ rows_of l.report l.tasks l.now l.selected.items
