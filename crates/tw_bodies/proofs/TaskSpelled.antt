-- A task that is read of bytes is what spells them.
use Rattle.std.proofs.Common.{◌≡◌, ℕ, List, ◌++◌, length, Some, sym, ap, subst, ◌∙◌, append_assoc}
use Rattle.std.specs.List.{flat_map, AllByRecursion}
use Rattle.std.specs.Int.{w32, to_be_bytes}
use Rattle.std.specs.FinMap.{entries, len, len-entries, from_sorted, entries-from_sorted}
use Rattle.std.proofs.lemmas.Option.{cond_some}
use Rattle.tw_model.specs.Maps.{bytes_cmp}
use Rattle.tw_model.specs.Ops.{TaskValue}
use Rattle.tw_bodies.specs.Body.{pair_bytes, task_bytes, IsPair, IsTask}
use Rattle.tw_fields.specs.Fields.{text_bytes, IsText}
use Rattle.tw_bodies.specs.Reading.{pair_at, task_at}
use Rattle.tw_fields.specs.Reading.{text_at}
use Rattle.tw_fields.proofs.FieldsSpelled.{bind_some, Spells, AreBytes, then_spelled, all_spelled, four_spelled, text_spelled, many_spelled, true_held}

pair_spelled : (bytes : List ℕ) (r : (List ℕ × List ℕ) × List ℕ) → AreBytes bytes → pair_at bytes ≡ Some r → Spells pair_bytes IsPair bytes r
unfolding pair_at
pair_spelled bytes r are e =
    then_spelled text_at text_bytes IsText text_spelled _ bytes r (λ l. Spells pair_bytes IsPair l r) are e (λ k is_key are e.
    then_spelled text_at text_bytes IsText text_spelled _ k.1 r (λ l. Spells pair_bytes IsPair (text_bytes k.0 ++ l) r) are e (λ v is_value are e.
    all_spelled pair_bytes IsPair _ (k.0, v.0) v.1 r (sym (append_assoc (text_bytes k.0) (text_bytes v.0) v.1)) (is_key, is_value) are e))

pub task_spelled : (bytes : List ℕ) (r : TaskValue × List ℕ) → AreBytes bytes → task_at bytes ≡ Some r → Spells task_bytes IsTask bytes r
unfolding task_at
task_spelled bytes r are e =
    let n = bind_some _ _ r e in
    let p = bind_some _ _ r n.2 in
    let number = four_spelled bytes n.0 are n.1 in
    let pairs = many_spelled pair_at pair_bytes IsPair pair_spelled n.0.0 n.0.1 p.0 number.2 p.1 in
    let w = cond_some _ _ r p.2 in
    let es = p.0.0 in
    let task : TaskValue = from_sorted es in
    let same : es ≡ entries task = sym (entries-from_sorted bytes_cmp es (true_held _ w.0)) in
    let count : n.0.0 ≡ len task = sym pairs.1.1 ∙ ap length same ∙ sym (len-entries task) in
    let spelled : bytes ≡ task_bytes task ++ p.0.1 =
    number.0 ∙ ap (λ (l : List ℕ). to_be_bytes w32 n.0.0 ++ l) pairs.0 ∙ sym (append_assoc (to_be_bytes w32 n.0.0) (flat_map pair_bytes es) p.0.1)
    ∙ ap (λ (k : ℕ). (to_be_bytes w32 k ++ flat_map pair_bytes es) ++ p.0.1) count ∙ ap (λ (xs : List (List ℕ × List ℕ)). (to_be_bytes w32 (len task) ++ flat_map pair_bytes xs) ++ p.0.1) same in
    let here : Spells task_bytes IsTask bytes (task, p.0.1) = (spelled, subst (AllByRecursion IsPair) same pairs.1.0, pairs.2) in
    subst (Spells task_bytes IsTask bytes) w.1 here
