use Rattle.tw_records.proofs.More.{snapshot_stands_after}
use Rattle.tw_records.proofs.laws.a_stored_snapshot_stands.Goals as goal

pub returns : goal.returns
returns c = snapshot_stands_after
