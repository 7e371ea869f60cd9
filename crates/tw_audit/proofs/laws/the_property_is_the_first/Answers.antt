use Rattle.tw_audit.proofs.First.{value_is_first}
use Rattle.tw_audit.proofs.laws.the_property_is_the_first.Goals as goal

pub returns : goal.returns
returns c = value_is_first
