use Rattle.timew_cmd.proofs.Totals.{row_here}
use Rattle.timew_cmd.proofs.commands.summary.cells_within.Goals as goal

pub cells-requires-clause-row : goal.cells-requires-clause-row
cells-requires-clause-row c = row_here c.args.rows.now c.loop-k.k c.index-rows-k.result c.requires.rows c.loop-k-test.true c.index-rows-k.is
