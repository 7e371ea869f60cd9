-- What a label makes of the seconds of intervals, and what is left of seconds if intervals are deleted.
use Rattle.std.specs.Prelude.{not, option_map}
use Rattle.std.proofs.Common.{◌≡◌, ℕ, ◌+◌, Bool, true, false, cond, List, [], ◌∷◌, length, Option, Some, None, Result, Ok, refl, sym, ap, ◌∙◌}
use Rattle.timew_interval.specs.declared.interval.Interval.{Interval}
use Rattle.timew_interval.specs.Interval.{Content, content, has, at, AreRows}
use Rattle.timew_interval.proofs.Tests.{both}
use Rattle.timew_cmd.specs.declared.error.TimewError.{TimewError}
use Rattle.timew_cmd.specs.Commands.Delete.{deleted}
use Rattle.timew_cmd.specs.Labels.{targets, each_of}
use Rattle.timew_cmd.specs.Numbers.{numbered, is_among, without, rows_in, checked}
use Rattle.timew_cmd.specs.Seconds.{number_at, is_one, Changes, Frees}
use Rattle.timew_words.specs.Results.{◌>>=◌}
use Rattle.timew_cmd.proofs.PlannedRows.{and_then}
use Rattle.timew_cmd.proofs.ReplacedSeconds.{back_free}

-- ---- intervals with a label

-- the intervals have the seconds that they had, and say of them what is made of what they said
record IsLabel (change : Interval → Interval) (made : Content → Content) : Type 0 where
  pub keeps : (r : Interval) (second : ℕ) → has (change r) second ≡ has r second
  pub says : (r : Interval) → content (change r) ≡ made (content r)

each_at : (ids : List ℕ) (change : Interval → Interval) (made : Content → Content) → IsLabel change made → (rows : List Interval) (s : ℕ)
    → at (each_of ids change rows) s ≡ cond (is_one ids (number_at rows s)) (option_map made (at rows s)) (at rows s)
each_at ids change made label [] s = refl
each_at ids change made label (r ∷ rows) s = by_case (is_among ids (length rows + 1)) (has r s) refl refl (each_at ids change made label rows s)
  where
    more : List Interval
    more = each_of ids change rows

    by_case : (b h : Bool) → is_among ids (length rows + 1) ≡ b → has r s ≡ h → at more s ≡ cond (is_one ids (number_at rows s)) (option_map made (at rows s)) (at rows s)
        → at (cond b (change r) r ∷ more) s ≡ cond (is_one ids (cond h (Some (length rows + 1)) (number_at rows s))) (option_map made (cond h (Some (content r)) (at rows s))) (cond h (Some (content r)) (at rows s))
    by_case true true among here rest =
        ap (λ (c : Bool). cond c (Some (content (change r))) (at more s)) (label.keeps r s ∙ here) ∙ ap (λ (c : Content). Some c) (label.says r)
        ∙ sym (ap (λ (c : Bool). cond c (Some (made (content r))) (Some (content r))) among)
    by_case true false among here rest = ap (λ (c : Bool). cond c (Some (content (change r))) (at more s)) (label.keeps r s ∙ here) ∙ rest
    by_case false true among here rest =
        ap (λ (c : Bool). cond c (Some (content r)) (at more s)) here ∙ sym (ap (λ (c : Bool). cond c (Some (made (content r))) (Some (content r))) among)
    by_case false false among here rest = ap (λ (c : Bool). cond c (Some (content r)) (at more s)) here ∙ rest

pub label_changes : (ids those : List ℕ) (change : Interval → Interval) (made : Content → Content) (rows next : List Interval)
    → ((r : Interval) (second : ℕ) → has (change r) second ≡ has r second) → ((r : Interval) → content (change r) ≡ made (content r))
    → targets ids rows ≡ Ok those → (targets ids rows >>= λ found. Ok (each_of found change rows)) ≡ Ok next → Changes those made rows next
label_changes ids those change made rows next keeps says found is = λ s.
    let now : Ok (each_of those change rows) ≡ Ok next = sym (ap (λ (o : Result (List ℕ) TimewError). o >>= λ found. Ok (each_of found change rows)) found) ∙ is in
    let same : each_of those change rows ≡ next = cc in
    ap (λ (l : List Interval). at l s) (sym same) ∙ each_at those change made (record { keeps = keeps; says = says }) rows s

-- ---- intervals that are deleted

none_left : (b : Bool) (o : Option Content) → o ≡ None → cond b None o ≡ None
none_left true o is = refl
none_left false o is = is

left_at : (ids : List ℕ) (rows : List Interval) (s : ℕ) → AreRows rows → at (rows_in (without ids (numbered rows))) s ≡ cond (is_one ids (number_at rows s)) None (at rows s)
left_at ids [] s are = refl
left_at ids (r ∷ rows) s are = by_case (is_among ids (length rows + 1)) (has r s) refl refl (left_at ids rows s are.2)
  where
    more : List Interval
    more = rows_in (without ids (numbered rows))

    by_case : (b h : Bool) → is_among ids (length rows + 1) ≡ b → has r s ≡ h → at more s ≡ cond (is_one ids (number_at rows s)) None (at rows s)
        → at (rows_in (cond (not b) ((length rows + 1, r) ∷ without ids (numbered rows)) (without ids (numbered rows)))) s ≡ cond (is_one ids (cond h (Some (length rows + 1)) (number_at rows s))) None (cond h (Some (content r)) (at rows s))
    by_case true true among here rest =
        rest ∙ none_left (is_one ids (number_at rows s)) (at rows s) (back_free r.end rows s (both _ _ here).1 are.1 are.2) ∙ sym (ap (λ (c : Bool). cond c None (Some (content r))) among)
    by_case true false among here rest = rest
    by_case false true among here rest =
        ap (λ (c : Bool). cond c (Some (content r)) (at more s)) here ∙ sym (ap (λ (c : Bool). cond c None (Some (content r))) among)
    by_case false false among here rest = ap (λ (c : Bool). cond c (Some (content r)) (at more s)) here ∙ rest

pub delete_frees : (ids : List ℕ) (rows next : List Interval) → AreRows rows → deleted ids rows ≡ Ok next → Frees ids rows next
delete_frees ids rows next are is = λ s.
    and_then (checked (length rows) ids) (λ n. Ok (rows_in (without ids (numbered rows)))) next (at next s ≡ cond (is_one ids (number_at rows s)) None (at rows s)) is (λ n found went.
    let same : rows_in (without ids (numbered rows)) ≡ next = cc in
    ap (λ (l : List Interval). at l s) (sym same) ∙ left_at ids rows s are)
