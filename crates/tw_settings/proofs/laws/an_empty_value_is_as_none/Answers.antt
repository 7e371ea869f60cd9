use Rattle.tw_settings.proofs.EmptyValues.{empty_is_absent}
use Rattle.tw_settings.proofs.laws.an_empty_value_is_as_none.Goals as goal

pub returns : goal.returns
returns c = empty_is_absent
