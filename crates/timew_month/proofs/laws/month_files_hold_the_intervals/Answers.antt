use Rattle.timew_month.proofs.FilesHold.{files_hold_rows}
use Rattle.timew_month.proofs.laws.month_files_hold_the_intervals.Goals as goal

pub returns : goal.returns
returns c = files_hold_rows
