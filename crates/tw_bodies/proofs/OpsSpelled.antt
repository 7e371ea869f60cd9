-- Operations that are read of bytes are what spells them.
use Rattle.std.proofs.Common.{◌≡◌, ℕ, zero, suc, List, [], ◌∷◌, ◌++◌, Some, refl, sym, ap, append_assoc}
use Rattle.tw_model.specs.declared.Op.{Op}
use Rattle.tw_model.specs.declared.Op.TheVariants.{Create, Delete, Update, UndoPoint}
use Rattle.tw_model.specs.declared.SyncOp.{SyncOp}
use Rattle.tw_model.specs.declared.SyncOp.TheVariants as sync
use Rattle.tw_bodies.specs.Body.{task_bytes, op_bytes, sync_op_bytes, IsTask, IsOp, IsSyncOp}
use Rattle.tw_fields.specs.Fields.{text_bytes, option_bytes, moment_bytes, IsText, IsUuid}
use Rattle.tw_bodies.specs.Reading.{task_at, create_at, delete_at, update_at, op_at, sync_create_at, sync_delete_at, sync_update_at, sync_op_at}
use Rattle.tw_fields.specs.Reading.{text_at, option_at, moment_at, uuid_at}
use Rattle.tw_bodies.proofs.TaskSpelled.{task_spelled}
use Rattle.tw_fields.proofs.FieldsSpelled.{AreBytes, bytes_tail, Spells, Any, IsTextIfAny, itself, then_spelled, all_spelled, text_spelled, option_spelled, moment_spelled, uuid_spelled}

-- lists one after another, in one
four : (a b c d rest : List ℕ) → a ++ (b ++ (c ++ (d ++ rest))) ≡ (a ++ (b ++ (c ++ d))) ++ rest
four a b c d rest = simp append_assoc

five : (a b c d e rest : List ℕ) → a ++ (b ++ (c ++ (d ++ (e ++ rest)))) ≡ (a ++ (b ++ (c ++ (d ++ e)))) ++ rest
five a b c d e rest = simp append_assoc

-- ---- operations of this replica

-- what follows the first byte of an operation
abbrev SpellsOp : ℕ → List ℕ → Op × List ℕ → Type 0
SpellsOp b bytes r = Spells op_bytes IsOp (b ∷ bytes) r

create_spelled : (bytes : List ℕ) (r : Op × List ℕ) → AreBytes bytes → create_at bytes ≡ Some r → SpellsOp 1 bytes r
unfolding create_at
create_spelled bytes r are e =
    then_spelled uuid_at itself IsUuid uuid_spelled _ bytes r (λ l. SpellsOp 1 l r) are e (λ u is_uuid are e.
    all_spelled op_bytes IsOp _ (Create u.0) u.1 r refl is_uuid are e)

delete_spelled : (bytes : List ℕ) (r : Op × List ℕ) → AreBytes bytes → delete_at bytes ≡ Some r → SpellsOp 2 bytes r
unfolding delete_at
delete_spelled bytes r are e =
    then_spelled uuid_at itself IsUuid uuid_spelled _ bytes r (λ l. SpellsOp 2 l r) are e (λ u is_uuid are e.
    then_spelled task_at task_bytes IsTask task_spelled _ u.1 r (λ l. SpellsOp 2 (u.0 ++ l) r) are e (λ t is_task are e.
    all_spelled op_bytes IsOp _ (Delete u.0 t.0) t.1 r (ap (λ (l : List ℕ). 2 ∷ l) (sym (append_assoc u.0 (task_bytes t.0) t.1))) (is_uuid, is_task) are e))

update_spelled : (bytes : List ℕ) (r : Op × List ℕ) → AreBytes bytes → update_at bytes ≡ Some r → SpellsOp 3 bytes r
unfolding update_at
update_spelled bytes r are e =
    then_spelled uuid_at itself IsUuid uuid_spelled _ bytes r (λ l. SpellsOp 3 l r) are e (λ u is_uuid are e.
    then_spelled text_at text_bytes IsText text_spelled _ u.1 r (λ l. SpellsOp 3 (u.0 ++ l) r) are e (λ p is_name are e.
    then_spelled option_at option_bytes IsTextIfAny option_spelled _ p.1 r (λ l. SpellsOp 3 (u.0 ++ (text_bytes p.0 ++ l)) r) are e (λ b is_before are e.
    then_spelled option_at option_bytes IsTextIfAny option_spelled _ b.1 r (λ l. SpellsOp 3 (u.0 ++ (text_bytes p.0 ++ (option_bytes b.0 ++ l))) r) are e (λ a is_after are e.
    then_spelled moment_at moment_bytes Any moment_spelled _ a.1 r (λ l. SpellsOp 3 (u.0 ++ (text_bytes p.0 ++ (option_bytes b.0 ++ (option_bytes a.0 ++ l)))) r) are e (λ m any are e.
    all_spelled op_bytes IsOp _ (Update u.0 p.0 b.0 a.0 m.0) m.1 r (ap (λ (l : List ℕ). 3 ∷ l) (five u.0 (text_bytes p.0) (option_bytes b.0) (option_bytes a.0) (moment_bytes m.0) m.1)) (is_uuid, is_name, is_before, is_after) are e)))))

pub op_spelled : (bytes : List ℕ) (r : Op × List ℕ) → AreBytes bytes → op_at bytes ≡ Some r → Spells op_bytes IsOp bytes r
unfolding op_at
op_spelled [] r are e = absurd cc
op_spelled (zero ∷ rest) r are e = absurd cc
op_spelled (suc zero ∷ rest) r are e = create_spelled rest r (bytes_tail 1 rest are) e
op_spelled (suc (suc zero) ∷ rest) r are e = delete_spelled rest r (bytes_tail 2 rest are) e
op_spelled (suc (suc (suc zero)) ∷ rest) r are e = update_spelled rest r (bytes_tail 3 rest are) e
op_spelled (suc (suc (suc (suc zero))) ∷ rest) r are e = all_spelled op_bytes IsOp (4 ∷ rest) UndoPoint rest r refl tt (bytes_tail 4 rest are) e
op_spelled (suc (suc (suc (suc (suc b)))) ∷ rest) r are e = absurd cc

-- ---- operations of versions

abbrev SpellsSyncOp : ℕ → List ℕ → SyncOp × List ℕ → Type 0
SpellsSyncOp b bytes r = Spells sync_op_bytes IsSyncOp (b ∷ bytes) r

sync_create_spelled : (bytes : List ℕ) (r : SyncOp × List ℕ) → AreBytes bytes → sync_create_at bytes ≡ Some r → SpellsSyncOp 1 bytes r
unfolding sync_create_at
sync_create_spelled bytes r are e =
    then_spelled uuid_at itself IsUuid uuid_spelled _ bytes r (λ l. SpellsSyncOp 1 l r) are e (λ u is_uuid are e.
    all_spelled sync_op_bytes IsSyncOp _ (sync.Create u.0) u.1 r refl is_uuid are e)

sync_delete_spelled : (bytes : List ℕ) (r : SyncOp × List ℕ) → AreBytes bytes → sync_delete_at bytes ≡ Some r → SpellsSyncOp 2 bytes r
unfolding sync_delete_at
sync_delete_spelled bytes r are e =
    then_spelled uuid_at itself IsUuid uuid_spelled _ bytes r (λ l. SpellsSyncOp 2 l r) are e (λ u is_uuid are e.
    all_spelled sync_op_bytes IsSyncOp _ (sync.Delete u.0) u.1 r refl is_uuid are e)

sync_update_spelled : (bytes : List ℕ) (r : SyncOp × List ℕ) → AreBytes bytes → sync_update_at bytes ≡ Some r → SpellsSyncOp 3 bytes r
unfolding sync_update_at
sync_update_spelled bytes r are e =
    then_spelled uuid_at itself IsUuid uuid_spelled _ bytes r (λ l. SpellsSyncOp 3 l r) are e (λ u is_uuid are e.
    then_spelled text_at text_bytes IsText text_spelled _ u.1 r (λ l. SpellsSyncOp 3 (u.0 ++ l) r) are e (λ p is_name are e.
    then_spelled option_at option_bytes IsTextIfAny option_spelled _ p.1 r (λ l. SpellsSyncOp 3 (u.0 ++ (text_bytes p.0 ++ l)) r) are e (λ v is_value are e.
    then_spelled moment_at moment_bytes Any moment_spelled _ v.1 r (λ l. SpellsSyncOp 3 (u.0 ++ (text_bytes p.0 ++ (option_bytes v.0 ++ l))) r) are e (λ m any are e.
    all_spelled sync_op_bytes IsSyncOp _ (sync.Update u.0 p.0 v.0 m.0) m.1 r (ap (λ (l : List ℕ). 3 ∷ l) (four u.0 (text_bytes p.0) (option_bytes v.0) (moment_bytes m.0) m.1)) (is_uuid, is_name, is_value) are e))))

pub sync_op_spelled : (bytes : List ℕ) (r : SyncOp × List ℕ) → AreBytes bytes → sync_op_at bytes ≡ Some r → Spells sync_op_bytes IsSyncOp bytes r
unfolding sync_op_at
sync_op_spelled [] r are e = absurd cc
sync_op_spelled (zero ∷ rest) r are e = absurd cc
sync_op_spelled (suc zero ∷ rest) r are e = sync_create_spelled rest r (bytes_tail 1 rest are) e
sync_op_spelled (suc (suc zero) ∷ rest) r are e = sync_delete_spelled rest r (bytes_tail 2 rest are) e
sync_op_spelled (suc (suc (suc zero)) ∷ rest) r are e = sync_update_spelled rest r (bytes_tail 3 rest are) e
sync_op_spelled (suc (suc (suc (suc b))) ∷ rest) r are e = absurd cc
