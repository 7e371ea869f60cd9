-- A month file whose lines are as they are written.
use Rattle.std.proofs.Common.{◌≡◌, ℕ, zero, suc, ◌+◌, ◌<◌, ◌≤◌, Bool, true, false, cond, ◌==◌, List, [], ◌∷◌, ◌++◌, length, take, drop, refl, sym, ap, subst, ◌∙◌, arith, append_assoc, append-nil, length-drop}
use Rattle.std.proofs.lemmas.List.{take-append-drop}
use Rattle.std.proofs.lemmas.List.Concat.{flat_map-append}
use Rattle.std.proofs.lemmas.Bool.{eqb-true}
use Rattle.std.specs.List.{AllByRecursion}
use Rattle.timew_interval.specs.declared.interval.Interval.{Interval}
use Rattle.timew_month.specs.Exact.{IsExact, AddsExactly, IsText, IsTextAfter}
use Rattle.timew_interval.specs.Line.{line_text, lines_text}
use Rattle.timew_month.specs.Month.{line_length}
use Rattle.timew_interval.specs.ReadBack.{IsWritable}
use Rattle.timew_interval.proofs.RowsByIndex.{all_push}

-- a newline follows the first line
newline : (bytes : List ℕ) (n : ℕ) → n ≡ line_length bytes → n < length bytes → drop n bytes ≡ 10 ∷ drop 1 (drop n bytes)
newline [] n is lt = absurd (omega arith)
newline (b ∷ bytes) zero is lt = by_case (b == 10) refl is
  where
    by_case : (e : Bool) → (b == 10) ≡ e → 0 ≡ cond e 0 (line_length bytes + 1) → b ∷ bytes ≡ 10 ∷ bytes
    by_case true here is = ap (λ (x : ℕ). x ∷ bytes) (eqb-true b 10 here)
    by_case false here is = absurd (omega (arith, is))
newline (b ∷ bytes) (suc n) is lt = by_case (b == 10) is (newline bytes n)
  where
    by_case : (e : Bool) → suc n ≡ cond e 0 (line_length bytes + 1) → (n ≡ line_length bytes → n < length bytes → drop n bytes ≡ 10 ∷ drop 1 (drop n bytes)) → drop n bytes ≡ 10 ∷ drop 1 (drop n bytes)
    by_case true is rest = absurd (omega (arith, is))
    by_case false is rest = rest (omega (arith, is)) (omega arith)

-- the bytes are the text of these intervals, and this is left
pub record IsFront (bytes rest : List ℕ) (rows : List Interval) : Type 0 where
  pub text : bytes ≡ lines_text rows ++ rest
  pub writable : AllByRecursion IsWritable rows

pub all_ahead : (bytes : List ℕ) → IsFront bytes bytes []
all_ahead bytes = record { text = refl; writable = tt }

added : (line : List ℕ) (before after : List Interval) → 0 < length line → AddsExactly line before after → (r : Interval) × (after ≡ before ++ r ∷ []) × IsExact line r
added [] before after some adds = absurd (omega arith)
added (b ∷ line) before after some adds = adds

none_added : (line : List ℕ) (before after : List Interval) → length line ≡ 0 → AddsExactly line before after → (line ≡ []) × (after ≡ before)
none_added [] before after none adds = (refl, adds)
none_added (b ∷ line) before after none adds = absurd (omega (arith, none))

none_left : (back : List ℕ) → length back ≡ 0 → back ≡ []
none_left [] none = refl
none_left (b ∷ back) none = absurd (omega (arith, none))

module _ (bytes rest front back : List ℕ) (size : ℕ) (before after : List Interval)
    (is : size ≡ line_length rest) (front_is : front ≡ take size rest) (back_is : back ≡ drop size rest) (inside : size ≤ length rest) (so_far : IsFront bytes rest before) (adds : AddsExactly front before after) where
  -- a line with its newline
  pub line_more : (next : List ℕ) → 0 < length front → (length back ≡ 0 → ⊥) → next ≡ drop 1 back → IsFront bytes next after
  line_more next some left then =
      let a = added front before after some adds in
      let short : size < length rest = omega (arith, ap length back_is, length-drop size rest, left, inside) in
      let break : back ≡ 10 ∷ next = back_is ∙ newline rest size is short ∙ ap (λ (l : List ℕ). 10 ∷ l) (ap (drop 1) (sym back_is) ∙ sym then) in
      let cut : rest ≡ line_text a.0 ++ 10 ∷ next = sym (take-append-drop size rest) ∙ (λ i. (sym front_is ∙ a.2.text) i ++ (sym back_is ∙ break) i) in
      record {
        text = so_far.text ∙ ap (λ (l : List ℕ). lines_text before ++ l) (cut ∙ sym (append_assoc (line_text a.0) (10 ∷ []) next))
            ∙ sym (append_assoc (lines_text before) (line_text a.0 ++ 10 ∷ []) next)
            ∙ ap (λ (l : List ℕ). l ++ next) (ap (λ (l : List ℕ). lines_text before ++ l) (sym (append-nil (line_text a.0 ++ 10 ∷ []))) ∙ sym (flat_map-append (λ (r : Interval). line_text r ++ 10 ∷ []) before (a.0 ∷ [])) ∙ ap lines_text (sym a.1));
        writable = subst (AllByRecursion IsWritable) (sym a.1) (all_push IsWritable before a.0 so_far.writable a.2.writable);
      }

  -- the end, after the last newline
  pub text_ends : length front ≡ 0 → length back ≡ 0 → IsText bytes after
  text_ends none end =
      let a = none_added front before after none adds in
      let nothing : rest ≡ [] = sym (take-append-drop size rest) ∙ (λ i. (sym front_is ∙ a.0) i ++ (sym back_is ∙ none_left back end) i) in
      record {
        text = so_far.text ∙ ap (λ (l : List ℕ). lines_text before ++ l) nothing ∙ append-nil (lines_text before) ∙ ap lines_text (sym a.1);
        writable = subst (AllByRecursion IsWritable) (sym a.1) so_far.writable;
      }

-- ---- after other intervals

-- the bytes are the text of the intervals that come after others, and this is left
abbrev pub IsFrontAfter : (before : List Interval) (bytes rest : List ℕ) (after : List Interval) → Type 0
IsFrontAfter before bytes rest after = (rows : List Interval) × (after ≡ before ++ rows) × IsFront bytes rest rows

pub none_after : (before : List Interval) (bytes : List ℕ) → IsFrontAfter before bytes bytes before
none_after before bytes = ([], sym (append-nil before), all_ahead bytes)

adds_one : (line : List ℕ) (rows : List Interval) (r : Interval) → 0 < length line → IsExact line r → AddsExactly line rows (rows ++ r ∷ [])
adds_one [] rows r some exact = absurd (omega arith)
adds_one (b ∷ line) rows r some exact = (r, refl, exact)

adds_none : (line : List ℕ) (rows : List Interval) → line ≡ [] → AddsExactly line rows rows
adds_none [] rows none = refl
adds_none (b ∷ line) rows none = absurd cc

module _ (start : List Interval) (bytes rest front back : List ℕ) (size : ℕ) (before after : List Interval)
    (is : size ≡ line_length rest) (front_is : front ≡ take size rest) (back_is : back ≡ drop size rest) (inside : size ≤ length rest) (so_far : IsFrontAfter start bytes rest before) (adds : AddsExactly front before after) where
  pub line_more_after : (next : List ℕ) → 0 < length front → (length back ≡ 0 → ⊥) → next ≡ drop 1 back → IsFrontAfter start bytes next after
  line_more_after next some left then =
      let a = added front before after some adds in
      let rows = so_far.0 in (
        rows ++ a.0 ∷ [],
        a.1 ∙ ap (λ (l : List Interval). l ++ a.0 ∷ []) so_far.1 ∙ append_assoc start rows (a.0 ∷ []),
        line_more bytes rest front back size rows (rows ++ a.0 ∷ []) is front_is back_is inside so_far.2 (adds_one front rows a.0 some a.2) next some left then,
      )

  pub text_ends_after : length front ≡ 0 → length back ≡ 0 → IsTextAfter start bytes after
  text_ends_after none end =
      let a = none_added front before after none adds in
      let rows = so_far.0 in
      (rows, a.1 ∙ so_far.1, text_ends bytes rest front back size rows rows is front_is back_is inside so_far.2 (adds_none front rows a.0) none end)
