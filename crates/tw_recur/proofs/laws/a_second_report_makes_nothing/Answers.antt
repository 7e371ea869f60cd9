use Rattle.tw_recur.proofs.Reported.{second_makes_nothing}
use Rattle.tw_recur.proofs.laws.a_second_report_makes_nothing.Goals as goal

pub returns : goal.returns
returns c = second_makes_nothing
