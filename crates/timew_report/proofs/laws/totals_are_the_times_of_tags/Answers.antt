use Rattle.timew_report.proofs.TagTimes.{totals_are}
use Rattle.timew_report.proofs.laws.totals_are_the_times_of_tags.Goals as goal

pub returns : goal.returns
returns c = totals_are
