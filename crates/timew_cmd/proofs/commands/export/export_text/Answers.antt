use Rattle.std.proofs.Common.{subst, sym}
use Rattle.timew_interval.specs.Interval.{AreRows}
use Rattle.timew_cmd.proofs.commands.export.export_text.Goals as goal

pub put_rows-requires : goal.put_rows-requires
put_rows-requires c = subst AreRows (sym c.as_slice.ensures.value) c.as_slice.ensures.are
