use Rattle.timew_cmd.proofs.RowAt.{row_of_id, end_of_row}
use Rattle.timew_cmd.proofs.commands.move_to.move_to.Goals as goal

pub moved_end-end-requires-clause-end : goal.moved_end-end-requires-clause-end
moved_end-end-requires-clause-end c = end_of_row c.in_ok-row.row.now.start c.in_ok-row.row.now.end (row_of_id c.args.parts.now.id c.args.rows.now c.in_ok-row.row.now c.requires.rows c.in_ok-row.ensures).end
