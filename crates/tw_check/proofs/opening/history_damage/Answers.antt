use Rattle.std.proofs.Common.{List, ℕ, refl, subst}
use Rattle.tw_world.specs.Memory.{memory_model}
use Rattle.tw_server.specs.Opening.{IsDamagedFile, ServerOpenRefused}
use Rattle.tw_server.specs.declared.error.ServerOpenError.TheVariants.{Damaged}
use Rattle.tw_check.proofs.Inside.{history_inside}
use Rattle.tw_check.proofs.opening.history_damage.Goals as goal

pub returns-in-Err-Damaged-clause-damage : goal.returns-in-Err-Damaged-clause-damage
returns-in-Err-Damaged-clause-damage c =
    let refused : ServerOpenRefused memory_model c.in_ok-disk.disk c.open.new.disk (Damaged c.in-Err-Damaged.offset) = subst (ServerOpenRefused memory_model c.in_ok-disk.disk c.open.new.disk) c.in-Err-Damaged.field-0-is c.in-Err-Damaged.ensures.refused in
    subst (λ (f : List ℕ). IsDamagedFile f c.in-Err-Damaged.offset) c.in_ok-disk.ensures.bytes (refused refl)

pub returns-in-Err-Damaged-clause-inside : goal.returns-in-Err-Damaged-clause-inside
returns-in-Err-Damaged-clause-inside c = history_inside c.args.file.now c.in-Err-Damaged.offset (returns-in-Err-Damaged-clause-damage c)
