-- The front of a list that grows.
use Rattle.std.proofs.Common.{◌≡◌, ◌⊎◌, inl, inr, ◌+◌, ◌<◌, ◌≤◌, ◌↔◌, min, List, ℕ, ◌++◌, length, take, true, ap, sym, ◌∙◌, arith}
use Rattle.std.specs.Prelude.{Result, Ok, Err, OnOk, is_ok}
use Rattle.std.proofs.Math.Nat.{min-eq_left, min-eq_right, min-le_left, min-le_right}
use Rattle.std.proofs.Math.Seq.{take-length, take-append-add}
use Rattle.std.proofs.lemmas.List.{take_all, length-take}
use Rattle.std.proofs.lemmas.Bool.{cases_lt}

-- as many as there are, or as fit
fitting : (bytes : List ℕ) (room : ℕ) → take (min (length bytes) room) bytes ≡ take room bytes
fitting bytes room = by_case (cases_lt (length bytes) room) where
  by_case : (length bytes < room) ⊎ (room ≤ length bytes) → take (min (length bytes) room) bytes ≡ take room bytes
  by_case (inl less) = ap (λ n. take n bytes) (min-eq_left (omega (arith, less))) ∙ take-length bytes ∙ sym (take_all room bytes (omega (arith, less)))
  by_case (inr fits) = ap (λ n. take n bytes) (min-eq_right fits)

-- what still fits of more is appended
front_grown : (front bytes : List ℕ) (room : ℕ) → length front + room ≡ 512 → front ++ take (min (length bytes) room) bytes ≡ take 512 (front ++ bytes)
front_grown front bytes room all =
    ap (λ more. front ++ more) (fitting bytes room) ∙ sym (take-append-add front bytes room) ∙ ap (λ n. take n (front ++ bytes)) all

-- what holds if a call succeeds, of one that does
succeeded : {T E P : Type 0} (r : Result T E) → is_ok r ≡ true → OnOk r P → P
succeeded (Ok x) is holds = holds
succeeded (Err e) is holds = absurd (cc)

-- a call that appends what still fits keeps the front of all
pub front_kept : {T E : Type 0} (r : Result T E) (front new bytes : List ℕ) (room more len : ℕ) → room + len ≡ 512 → len ≡ length front → more ≡ min (length bytes) room
    → ((is_ok r ≡ true) ↔ (len + length (take more bytes) ≤ 512)) → OnOk r (new ≡ front ++ take more bytes) → new ≡ take 512 (front ++ bytes)
front_kept r front new bytes room more len all is much can kept =
    let fits : len + length (take more bytes) ≤ 512 = omega (arith, all, length-take more bytes, min-le_left more (length bytes), much, min-le_right (length bytes) room) in
    let whole : length front + room ≡ 512 = omega (arith, all, is) in
    succeeded r (can.1 fits) kept ∙ ap (λ n. front ++ take n bytes) much ∙ front_grown front bytes room whole
