-- What was written of a task is read again.
use Rattle.std.proofs.Common.{◌≡◌, ℕ, ◌+◌, ◌^◌, ◌<◌, ◌≤◌, List, ◌++◌, length, Some, refl, ap, ◌∙◌, append_assoc, arith}
use Rattle.std.specs.List.{flat_map}
use Rattle.std.specs.Int.{w32, to_be_bytes}
use Rattle.std.specs.FinMap.{entries, len, len-entries, from_sorted, entries_sorted, entries-from_sorted, same_entries_map}
use Rattle.std.proofs.lemmas.List.{length-append}
use Rattle.tw_model.specs.Maps.{bytes_cmp}
use Rattle.tw_model.specs.Ops.{TaskValue}
use Rattle.tw_bodies.specs.Body.{pair_bytes, task_bytes, IsPair, IsTask}
use Rattle.tw_fields.specs.Fields.{text_bytes}
use Rattle.tw_bodies.specs.Reading.{pair_at, task_at}
use Rattle.tw_fields.specs.Reading.{text_at}
use Rattle.tw_fields.proofs.FieldsAgain.{then_again, four_again, text_again, text_short, many_again, few, held}

pair_again : (pair : List ℕ × List ℕ) (rest : List ℕ) → IsPair pair × (length (pair_bytes pair) < 2 ^ 32) → pair_at (pair_bytes pair ++ rest) ≡ Some (pair, rest)
unfolding pair_at
pair_again pair rest is =
    then_again text_at _ (text_bytes pair.0) (text_bytes pair.1) rest pair.0 (pair, rest) is.1 (λ lt. text_again pair.0 (text_bytes pair.1 ++ rest) is.0.0 (text_short pair.0 lt))
    (λ lt. rw (text_again pair.1 rest is.0.1 (text_short pair.1 lt)) refl)

pair_has_bytes : (pair : List ℕ × List ℕ) → 0 < length (pair_bytes pair)
pair_has_bytes pair = omega (arith, length-append (text_bytes pair.0) (text_bytes pair.1), length-append (to_be_bytes w32 (length pair.0)) pair.0)

pub task_again : (task : TaskValue) (rest : List ℕ) → IsTask task → length (task_bytes task) < 2 ^ 32 → task_at (task_bytes task ++ rest) ≡ Some (task, rest)
unfolding task_at
task_again task rest is lt =
    let es = entries task in
    let sum : length (task_bytes task) ≡ 4 + length (flat_map pair_bytes es) = length-append (to_be_bytes w32 (len task)) (flat_map pair_bytes es) in
    let few_pairs : length es ≤ length (flat_map pair_bytes es) = few pair_at pair_bytes IsPair pair_again es pair_has_bytes in
    let count : len task ≡ length es = len-entries task in
    let back : from_sorted {R = bytes_cmp} es ≡ task = same_entries_map _ task (entries-from_sorted bytes_cmp es (entries_sorted task)) in
    ap task_at (append_assoc (to_be_bytes w32 (len task)) (flat_map pair_bytes es) rest)
    ∙ rw (four_again (len task) (flat_map pair_bytes es ++ rest) (omega arith), count, many_again pair_at pair_bytes IsPair pair_again es rest is (omega arith), held _ (entries_sorted task), back) refl
