-- What was written of operations is read again.
use Rattle.std.proofs.Common.{◌≡◌, ℕ, ◌^◌, ◌<◌, List, ◌++◌, length, Option, Some, refl, arith}
use Rattle.tw_world.specs.declared.Moment.{Moment}
use Rattle.tw_model.specs.Ops.{TaskValue}
use Rattle.tw_model.specs.declared.Op.{Op}
use Rattle.tw_model.specs.declared.Op.TheVariants.{Create, Delete, Update, UndoPoint}
use Rattle.tw_model.specs.declared.SyncOp.{SyncOp}
use Rattle.tw_model.specs.declared.SyncOp.TheVariants as sync
use Rattle.tw_bodies.specs.Body.{task_bytes, op_bytes, sync_op_bytes, IsOp, IsSyncOp}
use Rattle.tw_fields.specs.Fields.{text_bytes, option_bytes, moment_bytes, IsUuid}
use Rattle.tw_bodies.specs.Reading.{create_at, delete_at, update_at, op_at, sync_create_at, sync_delete_at, sync_update_at, sync_op_at}
use Rattle.tw_fields.specs.Reading.{text_at, option_at, uuid_at}
use Rattle.tw_bodies.proofs.TaskAgain.{task_again}
use Rattle.tw_fields.proofs.FieldsAgain.{then_again, text_again, text_short, option_again, option_short, moment_again, uuid_again}

-- ---- operations of this replica

create_again : (u rest : List ℕ) → IsUuid u → create_at (u ++ rest) ≡ Some (Create u, rest)
unfolding create_at
create_again u rest is = rw (uuid_again u rest is) refl

delete_again : (u : List ℕ) (before : TaskValue) (rest : List ℕ) → IsOp (Delete u before) → length (u ++ task_bytes before) < 2 ^ 32 → delete_at ((u ++ task_bytes before) ++ rest) ≡ Some (Delete u before, rest)
unfolding delete_at
delete_again u before rest is lt =
    then_again uuid_at _ u (task_bytes before) rest u (Delete u before, rest) lt (λ lt. uuid_again u (task_bytes before ++ rest) is.0) (λ lt. rw (task_again before rest is.1 lt) refl)

update_again : (u p : List ℕ) (before after : Option (List ℕ)) (at : Moment) (rest : List ℕ) → IsOp (Update u p before after at) → length (u ++ (text_bytes p ++ (option_bytes before ++ (option_bytes after ++ moment_bytes at)))) < 2 ^ 32
    → update_at ((u ++ (text_bytes p ++ (option_bytes before ++ (option_bytes after ++ moment_bytes at)))) ++ rest) ≡ Some (Update u p before after at, rest)
unfolding update_at
update_again u p before after at rest is lt =
    let r : Op × List ℕ = (Update u p before after at, rest) in
    let a = moment_bytes at in
    let b = option_bytes after ++ a in
    let d = option_bytes before ++ b in
    let e = text_bytes p ++ d in
    then_again uuid_at _ u e rest u r lt (λ lt. uuid_again u (e ++ rest) is.0) (λ lt.
    then_again text_at _ (text_bytes p) d rest p r lt (λ lt. text_again p (d ++ rest) is.1 (text_short p lt)) (λ lt.
    then_again option_at _ (option_bytes before) b rest before r lt (λ lt. option_again before (b ++ rest) is.2 (option_short before lt)) (λ lt.
    then_again option_at _ (option_bytes after) a rest after r lt (λ lt. option_again after (a ++ rest) is.3 (option_short after lt)) (λ lt.
    rw (moment_again at rest) refl))))

pub op_again : (op : Op) (rest : List ℕ) → IsOp op × (length (op_bytes op) < 2 ^ 32) → op_at (op_bytes op ++ rest) ≡ Some (op, rest)
unfolding op_at
op_again (Create u) rest is = create_again u rest is.0
op_again (Delete u before) rest is = delete_again u before rest is.0 (omega (arith, is.1))
op_again (Update u p before after at) rest is = update_again u p before after at rest is.0 (omega (arith, is.1))
op_again UndoPoint rest is = refl

pub op_has_bytes : (op : Op) → 0 < length (op_bytes op)
op_has_bytes (Create u) = omega arith
op_has_bytes (Delete u before) = omega arith
op_has_bytes (Update u p before after at) = omega arith
op_has_bytes UndoPoint = omega arith

-- ---- operations of versions

sync_create_again : (u rest : List ℕ) → IsUuid u → sync_create_at (u ++ rest) ≡ Some (sync.Create u, rest)
unfolding sync_create_at
sync_create_again u rest is = rw (uuid_again u rest is) refl

sync_delete_again : (u rest : List ℕ) → IsUuid u → sync_delete_at (u ++ rest) ≡ Some (sync.Delete u, rest)
unfolding sync_delete_at
sync_delete_again u rest is = rw (uuid_again u rest is) refl

sync_update_again : (u p : List ℕ) (value : Option (List ℕ)) (at : Moment) (rest : List ℕ) → IsSyncOp (sync.Update u p value at) → length (u ++ (text_bytes p ++ (option_bytes value ++ moment_bytes at))) < 2 ^ 32
    → sync_update_at ((u ++ (text_bytes p ++ (option_bytes value ++ moment_bytes at))) ++ rest) ≡ Some (sync.Update u p value at, rest)
unfolding sync_update_at
sync_update_again u p value at rest is lt =
    let r : SyncOp × List ℕ = (sync.Update u p value at, rest) in
    let a = moment_bytes at in
    let b = option_bytes value ++ a in
    let d = text_bytes p ++ b in
    then_again uuid_at _ u d rest u r lt (λ lt. uuid_again u (d ++ rest) is.0) (λ lt.
    then_again text_at _ (text_bytes p) b rest p r lt (λ lt. text_again p (b ++ rest) is.1 (text_short p lt)) (λ lt.
    then_again option_at _ (option_bytes value) a rest value r lt (λ lt. option_again value (a ++ rest) is.2 (option_short value lt)) (λ lt.
    rw (moment_again at rest) refl)))

pub sync_op_again : (op : SyncOp) (rest : List ℕ) → IsSyncOp op × (length (sync_op_bytes op) < 2 ^ 32) → sync_op_at (sync_op_bytes op ++ rest) ≡ Some (op, rest)
unfolding sync_op_at
sync_op_again (sync.Create u) rest is = sync_create_again u rest is.0
sync_op_again (sync.Delete u) rest is = sync_delete_again u rest is.0
sync_op_again (sync.Update u p value at) rest is = sync_update_again u p value at rest is.0 (omega (arith, is.1))

pub sync_op_has_bytes : (op : SyncOp) → 0 < length (sync_op_bytes op)
sync_op_has_bytes (sync.Create u) = omega arith
sync_op_has_bytes (sync.Delete u) = omega arith
sync_op_has_bytes (sync.Update u p value at) = omega arith
