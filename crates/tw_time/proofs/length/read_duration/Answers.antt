use Rattle.std.proofs.Common.{sym, ◌∙◌, subst, IfOk, refl}
use Rattle.tw_time.specs.Lengths.{IsOfOneUnit, named_lengths}
use Rattle.tw_time.proofs.UnitFacts.{look_up_one, numbered_ones}
use Rattle.tw_time.proofs.length.read_duration.Goals as goal

pub returns-in-Some-clause-of_one_unit : goal.returns-in-Some-clause-of_one_unit
returns-in-Some-clause-of_one_unit c = look_up_one c.as_bytes.result.now named_lengths c.in-Some.length refl (sym c.look_up.ensures ∙ c.in-Some.is)

pub returns-in-None-clause-of_one_unit : goal.returns-in-None-clause-of_one_unit
returns-in-None-clause-of_one_unit c = subst (λ r. IfOk r IsOfOneUnit) (sym c.numbered.ensures) (numbered_ones c.as_bytes-in-None.result.now)
