use Rattle.tw_recur.proofs.Reported.{machines_make_the_same}
use Rattle.tw_recur.proofs.laws.machines_make_the_same.Goals as goal

pub returns : goal.returns
returns c = machines_make_the_same
