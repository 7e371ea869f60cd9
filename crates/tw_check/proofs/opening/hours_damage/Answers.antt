use Rattle.std.proofs.Common.{List, ℕ, refl, subst}
use Rattle.tw_world.specs.Memory.{memory_model}
use Rattle.tw_journal.specs.Form.{Records}
use Rattle.tw_journal.specs.Open.{IsDamagedAt, OpenRefused}
use Rattle.tw_journal.specs.declared.error.OpenError.TheVariants.{Damaged}
use Rattle.tw_check.specs.Kinds.{magic_of}
use Rattle.tw_check.specs.declared.kind.Kind.TheVariants.{Hours}
use Rattle.tw_check.proofs.Inside.{damage_inside}
use Rattle.tw_check.proofs.opening.hours_damage.Goals as goal

pub returns-in-Ok-clause-damage : goal.returns-in-Ok-clause-damage
returns-in-Ok-clause-damage c =
    let opened = c.in-Ok.ensures.opened refl in
    (opened.bodies, subst (λ (f : List ℕ). Records (magic_of Hours) f opened.bodies) c.in_ok-disk.ensures.bytes opened.records)

pub returns-in-Err-Damaged-clause-damage : goal.returns-in-Err-Damaged-clause-damage
returns-in-Err-Damaged-clause-damage c =
    let refused : OpenRefused memory_model c.in_ok-disk.disk c.open.new.disk (magic_of Hours) (Damaged c.in-Err-Damaged.offset) = subst (OpenRefused memory_model c.in_ok-disk.disk c.open.new.disk (magic_of Hours)) c.in-Err-Damaged.field-0-is c.in-Err-Damaged.ensures.refused in
    subst (λ (f : List ℕ). IsDamagedAt (magic_of Hours) f c.in-Err-Damaged.offset) c.in_ok-disk.ensures.bytes (refused refl)

pub returns-in-Err-Damaged-clause-inside : goal.returns-in-Err-Damaged-clause-inside
returns-in-Err-Damaged-clause-inside c = damage_inside (magic_of Hours) c.args.file.now c.in-Err-Damaged.offset (returns-in-Err-Damaged-clause-damage c)
