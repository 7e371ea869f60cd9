use Rattle.tw_check.proofs.Leading.{nothing_left_out}
use Rattle.tw_check.proofs.laws.nothing_whole_is_left_out.Goals as goal

pub returns : goal.returns
returns c = nothing_left_out
