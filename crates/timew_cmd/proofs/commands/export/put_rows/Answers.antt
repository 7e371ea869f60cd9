use Rattle.timew_cmd.proofs.Totals.{row_here}
use Rattle.timew_cmd.proofs.commands.export.put_rows.Goals as goal

pub object_of-requires : goal.object_of-requires
object_of-requires c = row_here c.args.rows.now c.loop-k.k c.index-rows-k.result c.requires c.loop-k-test.true c.index-rows-k.is
