use Rattle.std.proofs.Common.{ap, ◌∙◌}
use Rattle.timew_cmd.specs.Open.{open_of}
use Rattle.timew_cmd.proofs.Totals.{open_start}
use Rattle.timew_cmd.proofs.commands.show.tracking_text.Goals as goal

pub print_basic-requires : goal.print_basic-requires
print_basic-requires c = open_start c.args.rows.now (c.in-Some.field-0-0.now, c.in-Some.row.now) c.as_slice.ensures.are (c.in-Some.ensures.value ∙ ap open_of c.as_slice.ensures.value)
