-- A line that is written is read back, and so are the lines of a file.
use Rattle.std.specs.Prelude.{not, codes, IfSome}
use Rattle.std.proofs.Common.{◌≡◌, ℕ, ◌+◌, Bool, true, false, cond, ◌&&◌, ◌==◌, List, [], ◌∷◌, ◌++◌, length, drop, Option, Some, None, Ok, refl, ap, ◌∙◌, append_assoc}
use Rattle.std.proofs.lemmas.List.{take_at, drop_at}
use Rattle.std.proofs.lemmas.Bool.{le-leb}
use Rattle.std.specs.List.{list_all, AllByRecursion}
use Rattle.tw_time.specs.Basic.{basic, basic_moment}
use Rattle.tw_world.specs.Folder.{same_bytes}
use Rattle.timew_interval.specs.declared.interval.Interval.{Interval}
use Rattle.timew_interval.specs.Interval.{IsEnd}
use Rattle.timew_month.specs.Body.{◌>>=◌}
use Rattle.timew_interval.specs.Line.{tail_text, end_text, line_text, lines_text}
use Rattle.timew_month.specs.Line.{after, moment_at, end_behind, end_at, is_end, row_with, row_of}
use Rattle.timew_month.specs.Month.{on_first, lines, rows_from, month_rows, with_row, with_line}
use Rattle.timew_interval.proofs.SameBytes.{same_bytes_itself}
use Rattle.timew_interval.specs.ReadBack.{IsPrinted, IsWritable}
use Rattle.timew_month.proofs.TailReadBack.{tail_back}

pub after_front : (front rest : List ℕ) → after front (front ++ rest) ≡ Some rest
after_front front rest =
    ap (λ (l : List ℕ). cond (same_bytes l front) (Some (drop (length front) (front ++ rest))) None) (take_at front rest (length front) refl)
    ∙ ap (λ b. cond b (Some (drop (length front) (front ++ rest))) None) (same_bytes_itself front)
    ∙ ap Some (drop_at front rest (length front) refl)

moment_back : (at : ℕ) (rest : List ℕ) → IsPrinted at → moment_at (basic at ++ rest) ≡ Some (at, rest)
moment_back at rest is =
    ap (λ (l : List ℕ). basic_moment l >>= λ n. Some (n, drop 16 (basic at ++ rest))) (take_at (basic at) rest 16 is.size)
    ∙ ap (λ (o : Option ℕ). o >>= λ n. Some (n, drop 16 (basic at ++ rest))) is.back
    ∙ ap (λ (l : List ℕ). Some (at, l)) (drop_at (basic at) rest 16 is.size)

-- a tail doesn't look like an end
no_end : (tags : List (List ℕ)) (note : List ℕ) → after (codes " - ") (tail_text tags note) ≡ None
no_end [] [] = refl
no_end [] (b ∷ note) = refl
no_end (t ∷ tags) note = refl

end_back : (end : Option ℕ) (tags : List (List ℕ)) (note : List ℕ) → IfSome end IsPrinted → end_at (end_text end ++ tail_text tags note) ≡ Some (end, tail_text tags note)
end_back None tags note is = ap (λ (o : Option (List ℕ)). end_behind o (tail_text tags note)) (no_end tags note)
end_back (Some end) tags note is =
    let all = codes " - " ++ basic end in
    ap (λ (l : List ℕ). end_at l) (append_assoc (codes " - ") (basic end) (tail_text tags note))
    ∙ ap (λ (o : Option (List ℕ)). end_behind o (codes " - " ++ (basic end ++ tail_text tags note))) (after_front (codes " - ") (basic end ++ tail_text tags note))
    ∙ ap (λ (o : Option (ℕ × List ℕ)). o >>= λ m. Some (Some m.0, m.1)) (moment_back end (tail_text tags note) is)

ends_late : (start : ℕ) (end : Option ℕ) → IsEnd start end → is_end start end ≡ true
ends_late start None is = refl
ends_late start (Some end) is = le-leb start end is.0

pub line_back : (r : Interval) → IsWritable r → row_of (line_text r) ≡ Some r
unfolding row_of
line_back r is =
    ap (λ (o : Option (List ℕ)). o >>= λ rest. moment_at rest >>= λ start. end_at start.1 >>= λ end. row_with start.0 end.0 end.1) (after_front (codes "inc ") (basic r.start ++ (end_text r.end ++ tail_text r.tags r.annotation)))
    ∙ ap (λ (o : Option (ℕ × List ℕ)). o >>= λ start. end_at start.1 >>= λ end. row_with start.0 end.0 end.1) (moment_back r.start (end_text r.end ++ tail_text r.tags r.annotation) is.start)
    ∙ ap (λ (o : Option (Option ℕ × List ℕ)). o >>= λ end. row_with r.start end.0 end.1) (end_back r.end r.tags r.annotation is.end)
    ∙ ap (λ (o : Option (List (List ℕ) × List ℕ)). o >>= λ tail. cond (is_end r.start r.end) (Some (record { start = r.start; end = r.end; tags = tail.0; annotation = tail.1 })) None) (tail_back r.tags r.annotation is.tags is.row.rise is.row.annotation is.note)
    ∙ ap (λ b. cond b (Some r) None) (ends_late r.start r.end is.row.end)

-- ---- lines of a file

-- a line, and a newline after it
pub no_newline : List ℕ → Bool
no_newline line = list_all (λ b. not (b == 10)) line

line_first : (line rest : List ℕ) → list_all (λ b. not (b == 10)) line ≡ true → lines (line ++ 10 ∷ rest) ≡ line ∷ lines rest
line_first [] rest none = refl
line_first (b ∷ line) rest none = by_case (b == 10) none (line_first line rest)
  where
    by_case : (e : Bool) → not e && list_all (λ b. not (b == 10)) line ≡ true → (list_all (λ b. not (b == 10)) line ≡ true → lines (line ++ 10 ∷ rest) ≡ line ∷ lines rest) → cond e ([] ∷ lines (line ++ 10 ∷ rest)) (on_first b (lines (line ++ 10 ∷ rest))) ≡ (b ∷ line) ∷ lines rest
    by_case true none more = absurd (cc)
    by_case false none more = ap (on_first b) (more none)

pub record IsBack (r : Interval) : Type 0 where
  pub read : row_of (line_text r) ≡ Some r
  pub one_line : list_all (λ b. not (b == 10)) (line_text r) ≡ true

rows_back : (rows : List Interval) (n : ℕ) → AllByRecursion IsBack rows → rows_from n (lines (lines_text rows)) ≡ Ok rows
rows_back [] n back = refl
rows_back (r ∷ rows) n back =
    ap (λ (l : List ℕ). rows_from n (lines l)) (append_assoc (line_text r) (10 ∷ []) (lines_text rows))
    ∙ ap (rows_from n) (line_first (line_text r) (lines_text rows) back.0.one_line)
    ∙ ap (λ (o : Option Interval). with_line n o (rows_from (n + 1) (lines (lines_text rows)))) back.0.read
    ∙ ap (with_row r) (rows_back rows (n + 1) back.1)

-- the lines of a month file are read back
pub month_back : (rows : List Interval) → AllByRecursion IsBack rows → month_rows (lines_text rows) ≡ Ok rows
month_back rows back = rows_back rows 1 back
