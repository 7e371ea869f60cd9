use Rattle.timew_cmd.proofs.ReplacedSeconds.{join_takes}
use Rattle.timew_cmd.proofs.laws.join_gives_one_interval_the_seconds_of_two.Goals as goal

pub returns : goal.returns
returns c = λ parts rows next now earlier later found found_too is. join_takes parts.first parts.second parts.adjust rows next earlier later found found_too is
