use Rattle.timew_cmd.proofs.SplitAt.{split_at}
use Rattle.timew_cmd.proofs.laws.a_split_leaves_each_second.Goals as goal

pub returns : goal.returns
returns c = λ ids rows next now are is second. split_at ids rows next now second are is
