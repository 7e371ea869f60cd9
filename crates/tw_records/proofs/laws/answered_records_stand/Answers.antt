use Rattle.tw_records.proofs.Demands.{answered_stands}
use Rattle.tw_records.proofs.laws.answered_records_stand.Goals as goal

pub returns : goal.returns
returns c = answered_stands
