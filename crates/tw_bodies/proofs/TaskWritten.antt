-- Writing the properties of a task, as a loop does.
use Rattle.std.proofs.Common.{◌≡◌, ℕ, ◌+◌, ◌≤◌, ◌<◌, List, [], ◌++◌, get_or, drop, length, sym, ap, subst, ◌∙◌, append_assoc}
use Rattle.std.specs.List.{flat_map, AllByRecursion}
use Rattle.std.specs.FinMap.{entries, keys, values, len}
use Rattle.std.proofs.lemmas.List.{append-nil, drop_more, drop_all}
use Rattle.std.proofs.lemmas.List.Concat.{flat_map-cons}
use Rattle.tw_model.specs.Ops.{TaskValue}
use Rattle.tw_model.specs.declared.Op.{Op}
use Rattle.tw_model.proofs.Sorted.{entry_at, entries_end}
use Rattle.tw_bodies.specs.Body.{pair_bytes, IsPair, IsTask, IsOp}

pub written_more : (m : TaskValue) (n : ℕ) (out new whole : List ℕ) → n < len m → new ≡ out ++ pair_bytes (get_or (keys m) n [], get_or (values m) n [])
    → out ++ flat_map pair_bytes (drop n (entries m)) ≡ whole → new ++ flat_map pair_bytes (drop (n + 1) (entries m)) ≡ whole
written_more m n out new whole lt e so_far =
    let rest = drop (n + 1) (entries m) in
    let pair : List ℕ × List ℕ = (get_or (keys m) n [], get_or (values m) n []) in
    ap (λ (l : List ℕ). l ++ flat_map pair_bytes rest) e ∙ append_assoc out (pair_bytes pair) (flat_map pair_bytes rest)
    ∙ ap (λ (l : List ℕ). out ++ l) (sym (ap (flat_map pair_bytes) (entry_at m n [] lt) ∙ flat_map-cons pair_bytes pair rest)) ∙ so_far

pub written_end : (m : TaskValue) (n : ℕ) (out whole : List ℕ) → len m ≤ n → out ++ flat_map pair_bytes (drop n (entries m)) ≡ whole → out ≡ whole
written_end m n out whole le so_far = sym (append-nil out) ∙ ap (λ (es : List (List ℕ × List ℕ)). out ++ flat_map pair_bytes es) (sym (entries_end m n le)) ∙ so_far

pub pairs_more : (m : TaskValue) (n : ℕ) → n < len m → IsPair (get_or (keys m) n [], get_or (values m) n []) → (AllByRecursion IsPair (drop n (entries m)) → IsTask m) → AllByRecursion IsPair (drop (n + 1) (entries m)) → IsTask m
pairs_more m n lt is so_far rest = so_far (subst (AllByRecursion IsPair) (sym (entry_at m n [] lt)) (is, rest))

pub pairs_end : (m : TaskValue) (n : ℕ) → len m ≤ n → (AllByRecursion IsPair (drop n (entries m)) → IsTask m) → IsTask m
pairs_end m n le so_far = so_far (subst (AllByRecursion IsPair) (sym (entries_end m n le)) tt)

pub ops_more : (ops : List Op) (n : ℕ) (op : Op) → n < length ops → get_or ops n op ≡ op → IsOp op → (AllByRecursion IsOp (drop n ops) → AllByRecursion IsOp ops) → AllByRecursion IsOp (drop (n + 1) ops) → AllByRecursion IsOp ops
ops_more ops n op lt here is so_far rest = so_far (subst (AllByRecursion IsOp) (sym (drop_more ops n op lt)) (subst IsOp (sym here) is, rest))

pub ops_end : (ops : List Op) (n : ℕ) → length ops ≤ n → (AllByRecursion IsOp (drop n ops) → AllByRecursion IsOp ops) → AllByRecursion IsOp ops
ops_end ops n le so_far = so_far (subst (AllByRecursion IsOp) (sym (drop_all n ops le)) tt)
