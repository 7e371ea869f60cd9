use Rattle.tw_sync.proofs.PositionLemmas.{own_version_cancels_in}
use Rattle.tw_sync.proofs.laws.own_version_cancels_in.Goals as goal

pub returns : goal.returns
returns c = own_version_cancels_in
