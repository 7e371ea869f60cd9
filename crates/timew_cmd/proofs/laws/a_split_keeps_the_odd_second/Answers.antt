use Rattle.timew_cmd.proofs.SplitAt.{odd_second}
use Rattle.timew_cmd.proofs.laws.a_split_keeps_the_odd_second.Goals as goal

pub returns : goal.returns
returns c = odd_second
