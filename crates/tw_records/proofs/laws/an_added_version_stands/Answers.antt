use Rattle.tw_records.proofs.More.{version_stands_after}
use Rattle.tw_records.proofs.laws.an_added_version_stands.Goals as goal

pub returns : goal.returns
returns c = version_stands_after
