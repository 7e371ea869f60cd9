use Rattle.tw_sync.proofs.PositionLemmas.{own_versions_cancel_each_time}
use Rattle.tw_sync.proofs.laws.own_versions_cancel_each_time.Goals as goal

pub returns : goal.returns
returns c = own_versions_cancel_each_time
