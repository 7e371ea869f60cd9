-- What was written of a step is read again.
use Rattle.std.proofs.Common.{◌≡◌, ℕ, ◌+◌, ◌^◌, ◌<◌, ◌≤◌, Bool, true, false, List, [], ◌∷◌, ◌++◌, length, Some, refl, sym, ap, ◌∙◌, arith}
use Rattle.std.specs.List.{flat_map, AllByRecursion}
use Rattle.std.specs.Int.{w32, to_be_bytes}
use Rattle.std.proofs.lemmas.List.{append-nil, append_assoc, length-append}
use Rattle.tw_model.specs.declared.Op.{Op}
use Rattle.tw_model.specs.declared.SyncOp.{SyncOp}
use Rattle.tw_bodies.specs.Body.{Step, op_bytes, ops_bytes, sync_op_bytes, sync_ops_bytes, flag_byte, body_of, is_group, IsOp, IsSyncOp, IsStep}
use Rattle.tw_fields.specs.Fields.{IsUuid}
use Rattle.tw_bodies.specs.Body.Step.{Commit, Undo, Sync, Carried, Partial, Checkpoint}
use Rattle.tw_bodies.specs.Reading.{op_at, group_of, commit_of, sync_op_at, sync_of, carried_of, all_ops_of, partial_of, step_of}
use Rattle.tw_fields.specs.Reading.{number_at, many_at, counted_at}
use Rattle.tw_fields.proofs.FieldsAgain.{four_again, uuid_again, many_again, few}
use Rattle.tw_bodies.proofs.StateAgain.{counted_again, checkpoint_again}
use Rattle.tw_bodies.proofs.OpsAgain.{op_again, op_has_bytes, sync_op_again, sync_op_has_bytes}

group_again : (ops : List Op) → AllByRecursion IsOp ops → is_group ops ≡ true → length (to_be_bytes w32 (length ops) ++ flat_map op_bytes ops) < 2 ^ 32 → group_of (to_be_bytes w32 (length ops) ++ flat_map op_bytes ops) ≡ Some ops
unfolding group_of
group_again ops is group lt =
    let sum : length (to_be_bytes w32 (length ops) ++ flat_map op_bytes ops) ≡ 4 + length (flat_map op_bytes ops) = length-append (to_be_bytes w32 (length ops)) (flat_map op_bytes ops) in
    let few_ops : length ops ≤ length (flat_map op_bytes ops) = few op_at op_bytes IsOp op_again ops op_has_bytes in
    let rest : many_at op_at (length ops) (flat_map op_bytes ops) ≡ Some (ops, []) = ap (many_at op_at (length ops)) (sym (append-nil (flat_map op_bytes ops))) ∙ many_again op_at op_bytes IsOp op_again ops [] is (omega arith) in
    rw (four_again (length ops) (flat_map op_bytes ops) (omega arith), rest, group) refl

commit_again : (renumber : Bool) (ops : List Op) → AllByRecursion IsOp ops → is_group ops ≡ true → length (to_be_bytes w32 (length ops) ++ flat_map op_bytes ops) < 2 ^ 32 → commit_of (flag_byte renumber ∷ (to_be_bytes w32 (length ops) ++ flat_map op_bytes ops)) ≡ Some (Commit renumber ops)
unfolding commit_of
commit_again false ops is group lt = rw (group_again ops is group lt) refl
commit_again true ops is group lt = rw (group_again ops is group lt) refl

sync_again : (base : List ℕ) (ops : List SyncOp) → IsUuid base → AllByRecursion IsSyncOp ops → length (base ++ (to_be_bytes w32 (length ops) ++ flat_map sync_op_bytes ops)) < 2 ^ 32
    → sync_of (base ++ (to_be_bytes w32 (length ops) ++ flat_map sync_op_bytes ops)) ≡ Some (Sync base ops)
unfolding sync_of
sync_again base ops is all lt =
    let spelled = flat_map sync_op_bytes ops in
    let counted = to_be_bytes w32 (length ops) ++ spelled in
    let l1 : length (base ++ counted) ≡ length base + length counted = length-append base counted in
    let l2 : length counted ≡ 4 + length spelled = length-append (to_be_bytes w32 (length ops)) spelled in
    let few_ops : length ops ≤ length spelled = few sync_op_at sync_op_bytes IsSyncOp sync_op_again ops sync_op_has_bytes in
    let rest : many_at sync_op_at (length ops) spelled ≡ Some (ops, []) = ap (many_at sync_op_at (length ops)) (sym (append-nil spelled)) ∙ many_again sync_op_at sync_op_bytes IsSyncOp sync_op_again ops [] all (omega arith) in
    rw (uuid_again base counted is, four_again (length ops) spelled (omega arith), rest) refl

carried_again : (base : List ℕ) (ops : List SyncOp) → IsUuid base → AllByRecursion IsSyncOp ops → length (base ++ (to_be_bytes w32 (length ops) ++ flat_map sync_op_bytes ops)) < 2 ^ 32
    → carried_of (base ++ (to_be_bytes w32 (length ops) ++ flat_map sync_op_bytes ops)) ≡ Some (Carried base ops)
unfolding carried_of
carried_again base ops is all lt =
    let spelled = flat_map sync_op_bytes ops in
    let counted = to_be_bytes w32 (length ops) ++ spelled in
    let l1 : length (base ++ counted) ≡ length base + length counted = length-append base counted in
    let l2 : length counted ≡ 4 + length spelled = length-append (to_be_bytes w32 (length ops)) spelled in
    let few_ops : length ops ≤ length spelled = few sync_op_at sync_op_bytes IsSyncOp sync_op_again ops sync_op_has_bytes in
    let rest : many_at sync_op_at (length ops) spelled ≡ Some (ops, []) = ap (many_at sync_op_at (length ops)) (sym (append-nil spelled)) ∙ many_again sync_op_at sync_op_bytes IsSyncOp sync_op_again ops [] all (omega arith) in
    rw (uuid_again base counted is, four_again (length ops) spelled (omega arith), rest) refl

all_ops_again : (ops : List Op) → AllByRecursion IsOp ops → length (flat_map op_bytes ops) < 2 ^ 32 → all_ops_of (ops_bytes ops) ≡ Some ops
unfolding all_ops_of
all_ops_again ops is lt =
    let read : counted_at op_at (ops_bytes ops) ≡ Some (ops, []) = ap (counted_at op_at) (sym (append-nil (ops_bytes ops))) ∙ counted_again op_at op_bytes IsOp op_again op_has_bytes ops [] is lt in
    rw read refl

partial_again : (base : List ℕ) (ops : List SyncOp) (pending : List Op) → IsStep (Partial base ops pending) → length (base ++ (sync_ops_bytes ops ++ ops_bytes pending)) < 2 ^ 32
    → partial_of (base ++ (sync_ops_bytes ops ++ ops_bytes pending)) ≡ Some (Partial base ops pending)
unfolding partial_of
partial_again base ops pending is lt =
    let a = ops_bytes pending in
    let d = sync_ops_bytes ops ++ a in
    let l1 : length (base ++ d) ≡ length base + length d = length-append base d in
    let l2 : length d ≡ length (sync_ops_bytes ops) + length a = length-append (sync_ops_bytes ops) a in
    let l3 : length (sync_ops_bytes ops) ≡ 4 + length (flat_map sync_op_bytes ops) = length-append (to_be_bytes w32 (length ops)) (flat_map sync_op_bytes ops) in
    let l4 : length a ≡ 4 + length (flat_map op_bytes pending) = length-append (to_be_bytes w32 (length pending)) (flat_map op_bytes pending) in
    let spelled = flat_map sync_op_bytes ops in
    let few_ops : length ops ≤ length spelled = few sync_op_at sync_op_bytes IsSyncOp sync_op_again ops sync_op_has_bytes in
    let number : number_at w32 d ≡ Some (length ops, spelled ++ a) = ap (number_at w32) (append_assoc (to_be_bytes w32 (length ops)) spelled a) ∙ four_again (length ops) (spelled ++ a) (omega arith) in
    rw (uuid_again base d is.0, number, many_again sync_op_at sync_op_bytes IsSyncOp sync_op_again ops a is.1 (omega arith), all_ops_again pending is.2 (omega arith)) refl

-- what was written of a step that fits a record is read again
pub step_again : (step : Step) → IsStep step → length (body_of step) < 2 ^ 32 → step_of (body_of step) ≡ Some step
unfolding step_of
step_again (Commit renumber ops) is lt = commit_again renumber ops is.0 is.1 (omega arith)
step_again Undo is lt = refl
step_again (Sync base ops) is lt = sync_again base ops is.0 is.1 (omega arith)
step_again (Carried base ops) is lt = carried_again base ops is.0 is.1 (omega arith)
step_again (Partial base ops pending) is lt = partial_again base ops pending is (omega arith)
step_again (Checkpoint base places tasks pending) is lt = checkpoint_again base places tasks pending is lt
