use Rattle.tw_check.proofs.Leading.{no_hours_left_out}
use Rattle.tw_check.proofs.laws.no_hours_are_left_out.Goals as goal

pub returns : goal.returns
returns c = no_hours_left_out
