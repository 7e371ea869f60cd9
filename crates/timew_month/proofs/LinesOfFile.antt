-- Lines of a file, one after another.
use Rattle.std.proofs.Common.{◌≡◌, ℕ, suc, ◌+◌, ◌<◌, ◌≤◌, Bool, true, false, cond, ◌==◌, List, [], ◌∷◌, ◌++◌, length, take, drop, Result, Ok, Err, refl, sym, ap, ◌∙◌, arith, append-nil, add-one, inl, inr, length-drop}
use Rattle.timew_interval.specs.declared.interval.Interval.{Interval}
use Rattle.timew_month.specs.Month.{on_first, lines, line_length, rows_from, with_rows, IsTaken}
use Rattle.std.proofs.lemmas.List.{take_all, drop-drop}
use Rattle.std.proofs.lemmas.Bool.{cases_eq}

-- the last line
pub last_line : (bytes : List ℕ) → length bytes ≤ line_length bytes → lines bytes ≡ bytes ∷ []
last_line [] le = refl
last_line (b ∷ bytes) le = by_case (b == 10) le (last_line bytes)
  where
    by_case : (e : Bool) → suc (length bytes) ≤ cond e 0 (line_length bytes + 1) → (length bytes ≤ line_length bytes → lines bytes ≡ bytes ∷ []) → cond e ([] ∷ lines bytes) (on_first b (lines bytes)) ≡ (b ∷ bytes) ∷ []
    by_case true le rest = absurd (omega arith)
    by_case false le rest = ap (on_first b) (rest (omega arith))

-- a line before others
pub first_line : (bytes : List ℕ) → line_length bytes < length bytes → lines bytes ≡ take (line_length bytes) bytes ∷ lines (drop (line_length bytes + 1) bytes)
first_line [] lt = absurd (omega arith)
first_line (b ∷ bytes) lt = by_case (b == 10) lt (first_line bytes)
  where
    by_case : (e : Bool) → cond e 0 (line_length bytes + 1) < suc (length bytes) → (line_length bytes < length bytes → lines bytes ≡ take (line_length bytes) bytes ∷ lines (drop (line_length bytes + 1) bytes))
        → cond e ([] ∷ lines bytes) (on_first b (lines bytes)) ≡ take (cond e 0 (line_length bytes + 1)) (b ∷ bytes) ∷ lines (drop (cond e 0 (line_length bytes + 1) + 1) (b ∷ bytes))
    by_case true lt rest = refl
    by_case false lt rest = ap (on_first b) (rest (omega arith))
        ∙ ap (λ (n : ℕ). (b ∷ take (line_length bytes) bytes) ∷ lines (drop n (b ∷ bytes))) (sym (add-one (line_length bytes + 1)))
        ∙ ap (λ (n : ℕ). take n (b ∷ bytes) ∷ lines (drop (line_length bytes + 1 + 1) (b ∷ bytes))) (sym (add-one (line_length bytes)))

-- a text that was cut after its first line
module _ (rest front back : List ℕ) (size : ℕ) (is : size ≡ line_length rest) (front_is : front ≡ take size rest) (back_is : back ≡ drop size rest) (inside : size ≤ length rest) where
  pub no_more : length back ≡ 0 → lines rest ≡ front ∷ []
  no_more none =
      let whole : length rest ≤ size = omega (arith, ap length back_is, length-drop size rest, none) in
      last_line rest (omega (arith, is, whole)) ∙ ap (λ (l : List ℕ). l ∷ []) (sym (front_is ∙ take_all size rest whole))

  pub some_more : (length back ≡ 0 → ⊥) → lines rest ≡ front ∷ lines (drop 1 back)
  some_more some =
      let short : size < length rest = omega (arith, ap length back_is, length-drop size rest, some, inside) in
      first_line rest (omega (arith, is, short))
      ∙ ap (λ (n : ℕ). take n rest ∷ lines (drop (n + 1) rest)) (sym is)
      ∙ ap (λ (l : List ℕ). take size rest ∷ lines l) (sym (ap (drop 1) back_is ∙ drop-drop 1 size rest))
      ∙ ap (λ (l : List ℕ). l ∷ lines (drop 1 back)) (sym front_is)

  pub some_line : (more : List (List ℕ)) × (lines rest ≡ front ∷ more)
  some_line = elim (cases_eq (length back) 0) [ inl none ↦ ([], no_more none) | inr some ↦ (lines (drop 1 back), some_more (λ e. omega (arith, some, e))) ]

  -- what all lines come to: what those before this one gave, and what it and those after it give
  module _ (all : Result (List Interval) ℕ) (n : ℕ) (before after : List Interval) (so_far : with_rows before (rows_from n (lines rest)) ≡ all) where
    pub bad_line : IsTaken false front before after → all ≡ Err n
    bad_line none = sym so_far ∙ ap (λ (l : List (List ℕ)). with_rows before (rows_from n l)) some_line.1 ∙ ap (with_rows before) (none n some_line.0)

    pub all_read : IsTaken true front before after → length back ≡ 0 → all ≡ Ok after
    all_read taken none = sym so_far ∙ ap (λ (l : List (List ℕ)). with_rows before (rows_from n l)) (no_more none) ∙ taken n [] ∙ ap (λ (l : List Interval). Ok l) (append-nil after)

    pub on_it_goes : IsTaken true front before after → (length back ≡ 0 → ⊥) → with_rows after (rows_from (n + 1) (lines (drop 1 back))) ≡ all
    on_it_goes taken some = sym (taken n (lines (drop 1 back))) ∙ ap (λ (l : List (List ℕ)). with_rows before (rows_from n l)) (sym (some_more some)) ∙ so_far

-- ---- intervals after others

pub bad_after : (before : List Interval) (read : Result (List Interval) ℕ) (n : ℕ) → with_rows before read ≡ Err n → read ≡ Err n
bad_after before (Ok rows) n is = absurd cc
bad_after before (Err line) n is = is

pub read_alone : (read : Result (List Interval) ℕ) (rows : List Interval) → with_rows [] read ≡ Ok rows → read ≡ Ok rows
read_alone (Ok rows) all is = is
read_alone (Err line) all is = absurd cc

pub read_after : (before : List Interval) (read : Result (List Interval) ℕ) (all : List Interval) → with_rows before read ≡ Ok all → (rows : List Interval) × (read ≡ Ok rows) × (all ≡ before ++ rows)
read_after before (Ok rows) all is = let same : before ++ rows ≡ all = cc in (rows, refl, sym same)
read_after before (Err line) all is = absurd cc
