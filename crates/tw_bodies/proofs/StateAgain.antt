-- What was written of a whole state is read again.
use Rattle.std.proofs.Common.{◌≡◌, ℕ, ◌+◌, ◌^◌, ◌<◌, ◌≤◌, List, [], ◌++◌, length, Option, Some, None, refl, sym, ap, ◌∙◌, append_assoc, arith}
use Rattle.std.specs.List.{flat_map, AllByRecursion}
use Rattle.std.specs.Int.{w32, to_be_bytes}
use Rattle.std.specs.FinMap.{entries, len, len-entries, from_sorted, entries_sorted, entries-from_sorted, same_entries_map}
use Rattle.std.proofs.lemmas.List.{append-nil, length-append}
use Rattle.tw_model.specs.Maps.{bytes_cmp}
use Rattle.tw_model.specs.Ops.{TaskValue, TasksValue}
use Rattle.tw_model.specs.declared.Op.{Op}
use Rattle.tw_model.specs.Places.{Places}
use Rattle.tw_bodies.specs.Body.{pair_bytes, task_bytes, op_bytes, place_bytes, places_bytes, entry_bytes, tasks_bytes, ops_bytes, body_of, IsPlace, IsEntry, IsOp, IsStep}
use Rattle.tw_bodies.specs.Body.Step.{Checkpoint}
use Rattle.tw_bodies.specs.Reading.{place_at, entry_at, op_at, tasks_at, checkpoint_of}
use Rattle.tw_fields.specs.Reading.{many_at, counted_at}
use Rattle.tw_bodies.proofs.TaskAgain.{task_again}
use Rattle.tw_fields.proofs.FieldsAgain.{four_again, uuid_again, many_again, few, held}
use Rattle.tw_bodies.proofs.OpsAgain.{op_again, op_has_bytes}

place_again : (place : Option (List ℕ)) (rest : List ℕ) → IsPlace place × (length (place_bytes place) < 2 ^ 32) → place_at (place_bytes place ++ rest) ≡ Some (place, rest)
unfolding place_at
place_again None rest is = refl
place_again (Some u) rest is = rw (uuid_again u rest is.0) refl

place_has_bytes : (place : Option (List ℕ)) → 0 < length (place_bytes place)
place_has_bytes None = omega arith
place_has_bytes (Some u) = omega arith

entry_again : (entry : List ℕ × TaskValue) (rest : List ℕ) → IsEntry entry × (length (entry_bytes entry) < 2 ^ 32) → entry_at (entry_bytes entry ++ rest) ≡ Some (entry, rest)
unfolding entry_at
entry_again entry rest is =
    let sum : length (entry_bytes entry) ≡ length entry.0 + length (task_bytes entry.1) = length-append entry.0 (task_bytes entry.1) in
    ap entry_at (append_assoc entry.0 (task_bytes entry.1) rest)
    ∙ rw (uuid_again entry.0 (task_bytes entry.1 ++ rest) is.0.0, task_again entry.1 rest is.0.1 (omega (arith, sum, is.1))) refl

entry_has_bytes : (entry : List ℕ × TaskValue) → 0 < length (entry_bytes entry)
entry_has_bytes entry = omega (arith, length-append entry.0 (task_bytes entry.1), length-append (to_be_bytes w32 (len entry.1)) (flat_map pair_bytes (entries entry.1)))

module _ {A : Type 0} (one : List ℕ → Option (A × List ℕ)) (spell : A → List ℕ) (P : A → Type 0) (again : (x : A) (rest : List ℕ) → P x × (length (spell x) < 2 ^ 32) → one (spell x ++ rest) ≡ Some (x, rest)) (some : (x : A) → 0 < length (spell x)) where
  pub counted_again : (xs : List A) (rest : List ℕ) → AllByRecursion P xs → length (flat_map spell xs) < 2 ^ 32 → counted_at one ((to_be_bytes w32 (length xs) ++ flat_map spell xs) ++ rest) ≡ Some (xs, rest)
  unfolding counted_at
  counted_again xs rest is lt =
      let less : length xs ≤ length (flat_map spell xs) = few one spell P again xs some in
      ap (counted_at one) (append_assoc (to_be_bytes w32 (length xs)) (flat_map spell xs) rest)
      ∙ rw (four_again (length xs) (flat_map spell xs ++ rest) (omega arith), many_again one spell P again xs rest is lt) refl

tasks_again : (tasks : TasksValue) (rest : List ℕ) → AllByRecursion IsEntry (entries tasks) → length (tasks_bytes tasks) < 2 ^ 32 → tasks_at (tasks_bytes tasks ++ rest) ≡ Some (tasks, rest)
unfolding tasks_at
tasks_again tasks rest is lt =
    let es = entries tasks in
    let sum : length (tasks_bytes tasks) ≡ 4 + length (flat_map entry_bytes es) = length-append (to_be_bytes w32 (len tasks)) (flat_map entry_bytes es) in
    let count : len tasks ≡ length es = len-entries tasks in
    let back : from_sorted {R = bytes_cmp} es ≡ tasks = same_entries_map _ tasks (entries-from_sorted bytes_cmp es (entries_sorted tasks)) in
    ap (λ n. tasks_at ((to_be_bytes w32 n ++ flat_map entry_bytes es) ++ rest)) count
    ∙ rw (counted_again entry_at entry_bytes IsEntry entry_again entry_has_bytes es rest is (omega arith), held _ (entries_sorted tasks), back) refl

pub checkpoint_again : (base : List ℕ) (places : Places) (tasks : TasksValue) (pending : List Op) → IsStep (Checkpoint base places tasks pending) → length (body_of (Checkpoint base places tasks pending)) < 2 ^ 32
    → checkpoint_of (base ++ (places_bytes places ++ (tasks_bytes tasks ++ ops_bytes pending))) ≡ Some (Checkpoint base places tasks pending)
unfolding checkpoint_of
checkpoint_again base places tasks pending is lt =
    let a = ops_bytes pending in
    let b = tasks_bytes tasks ++ a in
    let d = places_bytes places ++ b in
    let l1 : length (base ++ d) ≡ length base + length d = length-append base d in
    let l2 : length d ≡ length (places_bytes places) + length b = length-append (places_bytes places) b in
    let l3 : length b ≡ length (tasks_bytes tasks) + length a = length-append (tasks_bytes tasks) a in
    let l4 : length (places_bytes places) ≡ 4 + length (flat_map place_bytes places) = length-append (to_be_bytes w32 (length places)) (flat_map place_bytes places) in
    let l5 : length a ≡ 4 + length (flat_map op_bytes pending) = length-append (to_be_bytes w32 (length pending)) (flat_map op_bytes pending) in
    let spelled = flat_map op_bytes pending in
    let few_ops : length pending ≤ length spelled = few op_at op_bytes IsOp op_again pending op_has_bytes in
    let last : many_at op_at (length pending) spelled ≡ Some (pending, []) = ap (many_at op_at (length pending)) (sym (append-nil spelled)) ∙ many_again op_at op_bytes IsOp op_again pending [] is.3 (omega arith) in
    rw (uuid_again base d is.0, counted_again place_at place_bytes IsPlace place_again place_has_bytes places b is.1 (omega arith), tasks_again tasks a is.2 (omega arith), four_again (length pending) spelled (omega arith), last) refl
