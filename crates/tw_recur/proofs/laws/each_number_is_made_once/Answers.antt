use Rattle.tw_recur.proofs.Reported.{each_number_once}
use Rattle.tw_recur.proofs.laws.each_number_is_made_once.Goals as goal

pub returns : goal.returns
returns c = each_number_once
