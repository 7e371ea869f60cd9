-- What stands before the rows of some numbers, or behind them, stays.
use Rattle.std.specs.Prelude.{not}
use Rattle.std.proofs.Common.{◌≡◌, ℕ, zero, suc, ◌+◌, ◌-◌, ◌<◌, Bool, true, false, cond, get_or, append_assoc, List, [], ◌∷◌, ◌++◌, length, take, drop, length-drop, refl, sym, ap, subst, ◌∙◌, arith}
use Rattle.std.proofs.lemmas.List.{drop-drop, drop_more}
use Rattle.timew_interval.specs.declared.interval.Interval.{Interval}
use Rattle.timew_interval.specs.Edit.{spliced}
use Rattle.timew_interval.specs.Placing.{placed}
use Rattle.timew_cmd.specs.Commands.Split.{halves, halved}
use Rattle.timew_cmd.specs.Labels.{each_from, each_of}
use Rattle.timew_cmd.specs.Numbers.{numbered, is_among, NoneAmong, IsWindow, without, rows_in}
use Rattle.timew_cmd.specs.Placing.{AllBefore, AllBehind}
use Rattle.timew_cmd.proofs.PlacedAside.{placed_within}

-- a change of rows leaves those of other numbers
pub record Keeps (ids : List ℕ) (changed : List Interval → List Interval) : Type 0 where
  pub none : changed [] ≡ []
  pub more : (r : Interval) (rows : List Interval) → is_among ids (length rows + 1) ≡ false → changed (r ∷ rows) ≡ r ∷ changed rows

others_front : (ids : List ℕ) (changed : List Interval → List Interval) → Keeps ids changed → (rows : List Interval) (at : ℕ) → NoneAmong ids (length rows - at) (length rows) → changed rows ≡ take at rows ++ changed (drop at rows)
others_front ids changed keeps [] zero others = refl
others_front ids changed keeps [] (suc at) others = refl
others_front ids changed keeps (r ∷ rows) zero others = refl
others_front ids changed keeps (r ∷ rows) (suc at) others =
    keeps.more r rows (others (length rows + 1) (omega arith) (omega arith)) ∙ ap (λ (l : List Interval). r ∷ l) (others_front ids changed keeps rows at (λ n low high. others n (omega arith) (omega arith)))

pub others_back : (ids : List ℕ) (changed : List Interval → List Interval) → Keeps ids changed → (rows : List Interval) → NoneAmong ids 0 (length rows) → changed rows ≡ rows
others_back ids changed keeps [] others = keeps.none
others_back ids changed keeps (r ∷ rows) others =
    keeps.more r rows (others (length rows + 1) (omega arith) (omega arith)) ∙ ap (λ (l : List Interval). r ∷ l) (others_back ids changed keeps rows (λ n low high. others n low (omega arith)))

window_is : (ids : List ℕ) (changed : List Interval → List Interval) (rows out : List Interval) (at end : ℕ) → Keeps ids changed → IsWindow ids (length rows) at end → out ++ changed (drop end rows) ≡ changed (drop at rows)
    → changed rows ≡ take at rows ++ (out ++ drop end rows)
window_is ids changed rows out at end keeps window is =
    others_front ids changed keeps rows at window.front
    ∙ ap (λ (l : List Interval). take at rows ++ l) (sym is ∙ ap (λ (l : List Interval). out ++ l) (others_back ids changed keeps (drop end rows) (λ n low high. window.back n low (omega (arith, length-drop end rows)))))

-- an edit of that window, with what became of its rows
splice_is : (ids : List ℕ) (rows out : List Interval) (at end count : ℕ) → IsWindow ids count at end → spliced at (end - at) out rows ≡ take at rows ++ (out ++ drop end rows)
splice_is ids rows out at end count window = ap (λ (n : ℕ). take at rows ++ (out ++ drop n rows)) (omega (arith, window.order))

window_edit : (ids : List ℕ) (changed : List Interval → List Interval) (rows out : List Interval) (at end : ℕ) → Keeps ids changed → IsWindow ids (length rows) at end → out ++ changed (drop end rows) ≡ changed (drop at rows)
    → spliced at (end - at) out rows ≡ changed rows
window_edit ids changed rows out at end keeps window is = splice_is ids rows out at end (length rows) window ∙ sym (window_is ids changed rows out at end keeps window is)

-- ---- the changes

pub others_kept : (ids : List ℕ) → Keeps ids (λ rows. rows_in (without ids (numbered rows)))
others_kept ids = record {
  none = refl;
  more = λ r rows is. ap (λ (b : Bool). rows_in (cond (not b) ((length rows + 1, r) ∷ without ids (numbered rows)) (without ids (numbered rows)))) is;
}

each_kept : (ids : List ℕ) (change : Interval → Interval) → Keeps ids (each_of ids change)
each_kept ids change = record { none = refl; more = λ r rows is. ap (λ (b : Bool). cond b (change r) r ∷ each_from ids change (numbered rows)) is }

halved_kept : (ids : List ℕ) (now : ℕ) → Keeps ids (halved ids now)
halved_kept ids now = record { none = refl; more = λ r rows is. ap (λ (b : Bool). cond b (halves now r) (r ∷ []) ++ halved ids now rows) is }

pub others_edit : (ids : List ℕ) (rows out : List Interval) (at end : ℕ) → IsWindow ids (length rows) at end → out ++ rows_in (without ids (numbered (drop end rows))) ≡ rows_in (without ids (numbered (drop at rows)))
    → spliced at (end - at) out rows ≡ rows_in (without ids (numbered rows))
others_edit ids rows out at end = window_edit ids (λ rows. rows_in (without ids (numbered rows))) rows out at end (others_kept ids)

pub each_edit : (ids : List ℕ) (change : Interval → Interval) (rows out : List Interval) (at end : ℕ) → IsWindow ids (length rows) at end → out ++ each_of ids change (drop end rows) ≡ each_of ids change (drop at rows)
    → spliced at (end - at) out rows ≡ each_of ids change rows
each_edit ids change rows out at end = window_edit ids (each_of ids change) rows out at end (each_kept ids change)

pub halved_edit : (ids : List ℕ) (now : ℕ) (rows out : List Interval) (at end : ℕ) → IsWindow ids (length rows) at end → out ++ halved ids now (drop end rows) ≡ halved ids now (drop at rows)
    → spliced at (end - at) out rows ≡ halved ids now rows
halved_edit ids now rows out at end = window_edit ids (halved ids now) rows out at end (halved_kept ids now)

-- one that is placed among the others of that window
pub placed_edit : (new : Interval) (ids : List ℕ) (rows out : List Interval) (at end : ℕ) → IsWindow ids (length rows) at end → AllBefore new (take at rows) → AllBehind new (drop end rows)
    → out ++ rows_in (without ids (numbered (drop end rows))) ≡ rows_in (without ids (numbered (drop at rows))) → spliced at (end - at) (placed new out) rows ≡ placed new (rows_in (without ids (numbered rows)))
placed_edit new ids rows out at end window before behind is =
    splice_is ids rows (placed new out) at end (length rows) window ∙ sym (placed_within new (take at rows) out (drop end rows) before behind)
    ∙ ap (placed new) (sym (window_is ids (λ rows. rows_in (without ids (numbered rows))) rows out at end (others_kept ids) window is))

-- ---- one row more

row_first : (ids : List ℕ) (rows : List Interval) (k : ℕ) (r : Interval) (b : Bool) → k < length rows → r ≡ get_or rows k r → is_among ids (length rows - k) ≡ b
    → rows_in (without ids (numbered (drop k rows))) ≡ rows_in (cond (not b) ((length rows - k, r) ∷ without ids (numbered (drop (k + 1) rows))) (without ids (numbered (drop (k + 1) rows))))
row_first ids rows k r b less here is =
    ap (λ (l : List Interval). rows_in (without ids (numbered l))) (drop_more rows k r less ∙ ap (λ (x : Interval). x ∷ drop (k + 1) rows) (sym here))
    ∙ ap (λ (n : ℕ). rows_in (without ids ((n, r) ∷ numbered (drop (k + 1) rows)))) so_many
    ∙ ap (λ (c : Bool). rows_in (cond (not c) ((length rows - k, r) ∷ without ids (numbered (drop (k + 1) rows))) (without ids (numbered (drop (k + 1) rows))))) is
  where
    so_many : length (drop (k + 1) rows) + 1 ≡ length rows - k
    so_many = omega (arith, length-drop (k + 1) rows, less)

-- one that is not of these numbers is kept
pub others_more : (ids : List ℕ) (rows : List Interval) (k : ℕ) (r : Interval) (out new all : List Interval) → k < length rows → r ≡ get_or rows k r → is_among ids (length rows - k) ≡ false → new ≡ out ++ r ∷ []
    → out ++ rows_in (without ids (numbered (drop k rows))) ≡ all → new ++ rows_in (without ids (numbered (drop (k + 1) rows))) ≡ all
others_more ids rows k r out new all less here is pushed was =
    let rest = rows_in (without ids (numbered (drop (k + 1) rows))) in
    ap (λ (l : List Interval). l ++ rest) pushed ∙ append_assoc out (r ∷ []) rest ∙ ap (λ (l : List Interval). out ++ l) (sym (row_first ids rows k r false less here is)) ∙ was

first_out : (ids : List ℕ) (rows : List Interval) → is_among ids (length rows) ≡ true → rows_in (without ids (numbered rows)) ≡ rows_in (without ids (numbered (drop 1 rows)))
first_out ids [] is = refl
first_out ids (r ∷ rows) is =
    let so_many : length (r ∷ rows) ≡ length rows + 1 = omega arith in
    ap (λ (b : Bool). rows_in (cond (not b) ((length rows + 1, r) ∷ without ids (numbered rows)) (without ids (numbered rows)))) (subst (λ (n : ℕ). is_among ids n ≡ true) so_many is)

-- one of these numbers is left out
pub others_less : (ids : List ℕ) (rows : List Interval) (k : ℕ) (out all : List Interval) → is_among ids (length rows - k) ≡ true → out ++ rows_in (without ids (numbered (drop k rows))) ≡ all
    → out ++ rows_in (without ids (numbered (drop (k + 1) rows))) ≡ all
others_less ids rows k out all is was =
    let so_many : length rows - k ≡ length (drop k rows) = omega (arith, length-drop k rows) in
    let same = first_out ids (drop k rows) (subst (λ (n : ℕ). is_among ids n ≡ true) so_many is) ∙ ap (λ (l : List Interval). rows_in (without ids (numbered l))) (drop-drop 1 k rows) in
    ap (λ (l : List Interval). out ++ l) (sym same) ∙ was
