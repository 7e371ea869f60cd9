use Rattle.std.proofs.Common.{List, ℕ, refl, subst}
use Rattle.tw_world.specs.Memory.{memory_model}
use Rattle.tw_replica.specs.Replica.{IsRowTooLong, OpeningRefused}
use Rattle.tw_replica.specs.declared.error.OpenError.TheVariants.{TooLong}
use Rattle.tw_check.proofs.opening.replica_of.Goals as goal

pub returns-in-Err-TooLong-clause-refused : goal.returns-in-Err-TooLong-clause-refused
returns-in-Err-TooLong-clause-refused c =
    let refused : OpeningRefused memory_model c.in-Ok.disk c.open.new.disk (TooLong c.in-Err-TooLong.bytes) = subst (OpeningRefused memory_model c.in-Ok.disk c.open.new.disk) c.in-Err-TooLong.field-0-is c.in-Err-TooLong.ensures.refused in
    subst (λ (f : List ℕ). IsRowTooLong f c.in-Err-TooLong.bytes) c.in-Ok.ensures.bytes (refused refl).0
