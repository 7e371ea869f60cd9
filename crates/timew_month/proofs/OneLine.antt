-- The text of an interval is one line, so it is read back.
use Rattle.std.specs.Prelude.{not, nat_lt, cond, IfSome}
use Rattle.std.proofs.Common.{◌≡◌, ℕ, ◌+◌, ◌/◌, ◌%◌, Bool, true, false, ◌||◌, ◌==◌, List, [], ◌∷◌, ◌++◌, codes, Option, Some, None, refl, ap, ◌∙◌, arith}
use Rattle.std.specs.List.{list_all, list_any, AllByRecursion}
use Rattle.std.proofs.lemmas.Bool.Decides.{nat_tests}
use Rattle.tw_time.specs.declared.form.Parts.{Parts}
use Rattle.tw_time.specs.Forms.{printed}
use Rattle.tw_time.specs.Basic.{basic, text_of_parts}
use Rattle.timew_interval.specs.declared.interval.Interval.{Interval}
use Rattle.timew_interval.specs.Interval.{is_printable, is_tag}
use Rattle.timew_interval.specs.Line.{is_special, is_escaped, escaped, quoted, tag_text, tags_text, note_text, tail_text, end_text, line_text}
use Rattle.timew_interval.specs.ReadBack.{IsPrinted, IsWritable}
use Rattle.timew_month.proofs.LineReadBack.{IsBack, line_back}
use Rattle.timew_interval.proofs.MonthNames.{IsDated, dated}
use Rattle.timew_interval.proofs.Tests.{both, both_true}

abbrev pub stays : ℕ → Bool
stays b = not (b == 10)

joined : (xs ys : List ℕ) → list_all stays xs ≡ true → list_all stays ys ≡ true → list_all stays (xs ++ ys) ≡ true
joined [] ys p q = q
joined (x ∷ xs) ys p q = let r = both (stays x) (list_all stays xs) p in both_true (stays x) (list_all stays (xs ++ ys)) r.0 (joined xs ys r.1 q)

printable_stays : (b : ℕ) → not (nat_lt b 32 || (b == 127)) ≡ true → stays b ≡ true
printable_stays b is = grind (arith, nat_tests)

text_stays : (text : List ℕ) → is_printable text ≡ true → list_all stays text ≡ true
text_stays [] is = refl
text_stays (b ∷ text) is = let r = both (not (nat_lt b 32 || (b == 127))) (is_printable text) is in both_true (stays b) (list_all stays text) (printable_stays b r.0) (text_stays text r.1)

escaped_stays : (text : List ℕ) → list_all stays text ≡ true → list_all stays (escaped text) ≡ true
escaped_stays [] is = refl
escaped_stays (b ∷ text) is = let r = both (stays b) (list_all stays text) is in by_case (is_escaped b) r.0 (escaped_stays text r.1)
  where
    by_case : (e : Bool) → stays b ≡ true → list_all stays (escaped text) ≡ true → list_all stays (cond e (92 ∷ b ∷ escaped text) (b ∷ escaped text)) ≡ true
    by_case true here rest = both_true (stays b) (list_all stays (escaped text)) here rest
    by_case false here rest = both_true (stays b) (list_all stays (escaped text)) here rest

quoted_stays : (text : List ℕ) → list_all stays text ≡ true → list_all stays (quoted text) ≡ true
quoted_stays text is = joined (escaped text) (34 ∷ []) (escaped_stays text is) refl

tag_printable : (tag : List ℕ) → is_tag tag ≡ true → is_printable tag ≡ true
tag_printable [] is = refl
tag_printable (b ∷ tag) is = is

tag_stays : (tag : List ℕ) → is_tag tag ≡ true → list_all stays (tag_text tag) ≡ true
tag_stays tag is = by_case (list_any is_special tag) (text_stays tag (tag_printable tag is))
  where
    by_case : (s : Bool) → list_all stays tag ≡ true → list_all stays (cond s (quoted tag) tag) ≡ true
    by_case true here = quoted_stays tag here
    by_case false here = here

tags_stay : (tags : List (List ℕ)) → list_all is_tag tags ≡ true → list_all stays (tags_text tags) ≡ true
tags_stay [] is = refl
tags_stay (tag ∷ []) is = tag_stays tag (both (is_tag tag) true is).0
tags_stay (tag ∷ next ∷ tags) is =
    let r = both (is_tag tag) (list_all is_tag (next ∷ tags)) is in
    joined (tag_text tag) (32 ∷ tags_text (next ∷ tags)) (tag_stays tag r.0) (tags_stay (next ∷ tags) r.1)

note_stays : (text : List ℕ) → is_printable text ≡ true → list_all stays (note_text text) ≡ true
note_stays [] is = refl
note_stays (b ∷ text) is = quoted_stays (b ∷ text) (text_stays (b ∷ text) is)

tail_stays : (tags : List (List ℕ)) (note : List ℕ) → list_all is_tag tags ≡ true → is_printable note ≡ true → list_all stays (tail_text tags note) ≡ true
tail_stays [] [] is_tags is_note = refl
tail_stays [] (b ∷ note) is_tags is_note = note_stays (b ∷ note) is_note
tail_stays (tag ∷ tags) note is_tags is_note = joined (tags_text (tag ∷ tags)) (note_text note) (tags_stay (tag ∷ tags) is_tags) (note_stays note is_note)

digit_stays : (k : ℕ) → stays (48 + k % 10) ≡ true
digit_stays k = grind (arith, nat_tests)

basic_stays : (at : ℕ) → IsDated at → list_all stays (basic at) ≡ true
unfolding basic
basic_stays at d = ap (λ (o : Option Parts). list_all stays (text_of_parts (codes "YYYYMMDDThhmmssZ") o)) d.1 ∙ printed_stays d.0
  where
    printed_stays : (p : Parts) → list_all stays (printed (codes "YYYYMMDDThhmmssZ") p) ≡ true
    printed_stays p =
        rw (digit_stays (p.year / 1000), digit_stays (p.year / 100), digit_stays (p.year / 10), digit_stays (p.year / 1), digit_stays (p.month / 10), digit_stays (p.month / 1), digit_stays (p.day / 10), digit_stays (p.day / 1), digit_stays (p.hour / 10), digit_stays (p.hour / 1), digit_stays (p.minute / 10), digit_stays (p.minute / 1), digit_stays (p.second / 10), digit_stays (p.second / 1)) refl

end_stays : (end : Option ℕ) → IfSome end IsPrinted → list_all stays (end_text end) ≡ true
end_stays None is = refl
end_stays (Some end) is = basic_stays end (dated end is.size)

one_line : (r : Interval) → IsWritable r → list_all stays (line_text r) ≡ true
one_line r is =
    joined (basic r.start) (end_text r.end ++ tail_text r.tags r.annotation) (basic_stays r.start (dated r.start is.start.size))
    (joined (end_text r.end) (tail_text r.tags r.annotation) (end_stays r.end is.end) (tail_stays r.tags r.annotation is.row.tags is.row.annotation))

-- what is written is read back
pub writable_back : (r : Interval) → IsWritable r → IsBack r
writable_back r is = record { read = line_back r is; one_line = one_line r is }

pub all_back : (rows : List Interval) → AllByRecursion IsWritable rows → AllByRecursion IsBack rows
all_back [] all = tt
all_back (r ∷ rows) all = (writable_back r all.0, all_back rows all.1)

pub all_dated : (rows : List Interval) → AllByRecursion IsWritable rows → AllByRecursion (λ r. IsDated r.start) rows
all_dated [] all = tt
all_dated (r ∷ rows) all = (dated r.start all.0.start.size, all_dated rows all.1)
