-- A line whose tags and annotation are as they are written is the line of its interval.
use Rattle.std.specs.Prelude.{codes, IfSome, IfOk}
use Rattle.std.proofs.Common.{◌≡◌, ℕ, ◌<◌, Bool, true, false, cond, List, [], ◌∷◌, ◌++◌, length, take, drop, Option, Some, None, Result, Ok, Err, refl, sym, ap, subst, ◌∙◌, arith, rules, append_assoc}
use Rattle.std.proofs.lemmas.List.{append-nil, take-append-drop}
use Rattle.std.specs.List.{AllByRecursion}
use Rattle.std.specs.Str.{is_utf8}
use Rattle.std.proofs.lemmas.Str.{IsUtf8-from_ascii}
use Rattle.tw_time.specs.declared.form.Parts.{Parts}
use Rattle.tw_time.specs.Forms.{filled_after}
use Rattle.tw_time.specs.Basic.{basic, basic_moment, utc_parts, text_of_parts}
use Rattle.tw_time.proofs.TakenFacts.{printed_again}
use Rattle.tw_world.specs.Folder.{same_bytes}
use Rattle.timew_interval.specs.declared.interval.Interval.{Interval}
use Rattle.timew_month.specs.declared.read.line.Line.{Line}
use Rattle.timew_month.specs.Body.{◌>>=◌}
use Rattle.timew_month.specs.Exact.{AreWritten, IsTail, IsExact, row_in}
use Rattle.timew_interval.specs.Interval.{IsRow}
use Rattle.timew_interval.specs.Line.{end_text, tags_text, tail_text}
use Rattle.timew_month.specs.Line.{after, moment_at, end_behind, end_at}
use Rattle.timew_month.specs.Tail.{marked}
use Rattle.timew_interval.specs.ReadBack.{IsPrinted, IsGoodTag}
use Rattle.timew_interval.proofs.SameBytes.{same_bytes_exact}
use Rattle.timew_month.proofs.TailReadBack.{tail_back}
use Rattle.timew_interval.proofs.RisingTags.{utf8_is}
use Rattle.timew_interval.proofs.RowsReadBack.{writable_is}

pub after_is : (front bytes rest : List ℕ) → after front bytes ≡ Some rest → bytes ≡ front ++ rest
after_is front bytes rest is = by_case (same_bytes (take (length front) bytes) front) refl is
  where
    by_case : (b : Bool) → same_bytes (take (length front) bytes) front ≡ b → cond b (Some (drop (length front) bytes)) None ≡ Some rest → bytes ≡ front ++ rest
    by_case true same read = let back : drop (length front) bytes ≡ rest = cc in sym (take-append-drop (length front) bytes) ∙ (λ i. same_bytes_exact (take (length front) bytes) front same i ++ back i)
    by_case false same read = absurd (cc)

no_moment : (at : ℕ) → basic_moment [] ≡ Some at → ⊥
unfolding basic_moment filled_after
no_moment at is = cc

sized : (at : ℕ) → basic_moment (basic at) ≡ Some at → length (basic at) ≡ 16
unfolding basic
sized at back = by_case (utc_parts at) back
  where
    by_case : (o : Option Parts) → basic_moment (text_of_parts (codes "YYYYMMDDThhmmssZ") o) ≡ Some at → length (text_of_parts (codes "YYYYMMDDThhmmssZ") o) ≡ 16
    by_case None back = absurd (no_moment at back)
    by_case (Some p) back = refl

pub printed_is : (text : List ℕ) (at : ℕ) → basic_moment text ≡ Some at → (text ≡ basic at) × IsPrinted at
printed_is text at is =
    let same = printed_again text at is in
    let back : basic_moment (basic at) ≡ Some at = subst (λ (t : List ℕ). basic_moment t ≡ Some at) same is in
    (same, record { back = back; size = sized at back })

moment_is : (bytes rest : List ℕ) (at : ℕ) → moment_at bytes ≡ Some (at, rest) → (bytes ≡ basic at ++ rest) × IsPrinted at
moment_is bytes rest at is = by_case (basic_moment (take 16 bytes)) refl is
  where
    by_case : (o : Option ℕ) → basic_moment (take 16 bytes) ≡ o → (◌>>=◌ {B = ℕ × List ℕ} o (λ n. Some (n, drop 16 bytes))) ≡ Some (at, rest) → (bytes ≡ basic at ++ rest) × IsPrinted at
    by_case None read is = absurd (cc)
    by_case (Some n) read is =
        let pair : ◌≡◌ {A = ℕ × List ℕ} (n, drop 16 bytes) (at, rest) = cc in
        let same : n ≡ at = ap (λ (x : ℕ × List ℕ). x.0) pair in
        let back : drop 16 bytes ≡ rest = ap (λ (x : ℕ × List ℕ). x.1) pair in
        let printed = printed_is (take 16 bytes) at (read ∙ ap (λ (k : ℕ). Some k) same) in
        (sym (take-append-drop 16 bytes) ∙ (λ i. printed.0 i ++ back i), printed.1)

end_is : (bytes rest : List ℕ) (end : Option ℕ) → end_at bytes ≡ Some (end, rest) → (bytes ≡ end_text end ++ rest) × IfSome end IsPrinted
end_is bytes rest end is = by_case (after (codes " - ") bytes) refl is
  where
    of_moment : (more : List ℕ) (o : Option (ℕ × List ℕ)) → bytes ≡ codes " - " ++ more → moment_at more ≡ o → (◌>>=◌ {B = Option ℕ × List ℕ} o (λ at. Some (Some at.0, at.1))) ≡ Some (end, rest) → (bytes ≡ end_text end ++ rest) × IfSome end IsPrinted
    of_moment more None text read is = absurd (cc)
    of_moment more (Some m) text read is =
        let pair : ◌≡◌ {A = Option ℕ × List ℕ} (Some m.0, m.1) (end, rest) = cc in
        let same : Some m.0 ≡ end = ap (λ (x : Option ℕ × List ℕ). x.0) pair in
        let back : m.1 ≡ rest = ap (λ (x : Option ℕ × List ℕ). x.1) pair in
        let here = moment_is more m.1 m.0 read in (
          text ∙ ap (λ (l : List ℕ). codes " - " ++ l) (here.0 ∙ ap (λ (l : List ℕ). basic m.0 ++ l) back) ∙ sym (append_assoc (codes " - ") (basic m.0) rest) ∙ ap (λ (e : Option ℕ). end_text e ++ rest) same,
          subst (λ (e : Option ℕ). IfSome e IsPrinted) same here.1,
        )

    by_case : (o : Option (List ℕ)) → after (codes " - ") bytes ≡ o → end_behind o bytes ≡ Some (end, rest) → (bytes ≡ end_text end ++ rest) × IfSome end IsPrinted
    by_case None read is =
        let pair : ◌≡◌ {A = Option ℕ × List ℕ} (None, bytes) (end, rest) = cc in
        let none : None ≡ end = ap (λ (x : Option ℕ × List ℕ). x.0) pair in
        let back : bytes ≡ rest = ap (λ (x : Option ℕ × List ℕ). x.1) pair in
        (back ∙ ap (λ (e : Option ℕ). end_text e ++ rest) none, subst (λ (e : Option ℕ). IfSome e IsPrinted) none tt)
    by_case (Some more) read is = of_moment more (moment_at more) (after_is (codes " - ") bytes more read) refl is

pub exact_line : (line behind_inc behind_start tail : List ℕ) (start : ℕ) (end : Option ℕ) (r : Interval)
    → after (codes "inc ") line ≡ Some behind_inc → moment_at behind_inc ≡ Some (start, behind_start) → end_at behind_start ≡ Some (end, tail)
    → r.start ≡ start → r.end ≡ end → IsRow r → IsTail r.tags r.annotation tail → IsExact line r
exact_line line behind_inc behind_start tail start end r inc first last start_is end_is' row exact =
    let of_start = moment_is behind_inc behind_start start first in
    let of_end = end_is behind_start tail end last in
    let text : line ≡ codes "inc " ++ (basic start ++ (end_text end ++ tail_text r.tags r.annotation)) =
    after_is (codes "inc ") line behind_inc inc
    ∙ ap (λ (l : List ℕ). codes "inc " ++ l) (of_start.0 ∙ ap (λ (l : List ℕ). basic start ++ l) (of_end.0 ∙ ap (λ (l : List ℕ). end_text end ++ l) exact.text)) in
    record {
      text = text ∙ (λ i. codes "inc " ++ (basic (sym start_is i) ++ (end_text (sym end_is' i) ++ tail_text r.tags r.annotation)));
      writable = writable_is r row (subst IsPrinted (sym start_is) of_start.1) (subst (λ (e : Option ℕ). IfSome e IsPrinted) (sym end_is') of_end.1) exact.utf8 exact.note_utf8;
    }

-- ---- tags as they are written

none_utf8 : is_utf8 [] ≡ true
none_utf8 = utf8_is [] (IsUtf8-from_ascii [] (search rules))

utf8_of : (tags : List (List ℕ)) → AllByRecursion IsGoodTag tags → AllByRecursion (λ tag. is_utf8 tag ≡ true) tags
utf8_of [] good = tt
utf8_of (t ∷ tags) good = (good.0.1, utf8_of tags good.1)

pub tail_is : (tags : List (List ℕ)) (bytes : List ℕ) → AreWritten tags bytes → IsTail tags [] (codes " # " ++ bytes)
tail_is [] bytes written = absurd (omega (arith, written.some))
tail_is (t ∷ tags) bytes written = record {
  text = ap (λ (l : List ℕ). codes " # " ++ l) (written.text ∙ sym (append-nil (tags_text (t ∷ tags))));
  utf8 = utf8_of (t ∷ tags) written.good;
  note_utf8 = none_utf8;
}

pub marked_is : (tags : List (List ℕ)) (bytes : List ℕ) → AreWritten tags bytes → marked bytes ≡ Some (tags, [])
marked_is [] bytes written = absurd (omega (arith, written.some))
marked_is (t ∷ tags) bytes written = ap marked (written.text ∙ sym (append-nil (tags_text (t ∷ tags)))) ∙ tail_back (t ∷ tags) [] written.good written.rise refl none_utf8

pub nothing_is : (bytes : List ℕ) → length bytes < 1 → bytes ≡ []
nothing_is [] none = refl
nothing_is (b ∷ bytes) none = absurd (omega (arith, none))

-- nothing after the moments
pub no_tail : (tags : List (List ℕ)) (note bytes : List ℕ) → tags ≡ [] → note ≡ [] → length bytes < 1 → IsTail tags note bytes
no_tail tags note bytes no_tags no_note none = record {
  text = nothing_is bytes none ∙ (λ i. tail_text (sym no_tags i) (sym no_note i));
  utf8 = subst (AllByRecursion (λ tag. is_utf8 tag ≡ true)) (sym no_tags) tt;
  note_utf8 = ap is_utf8 no_note ∙ none_utf8;
}

-- ---- what is read of a line

module _ {E : Type 0} (line behind_inc behind_start tail : List ℕ) (start : ℕ) (end : Option ℕ) where
  pub exact_read : (read : Result (Option Line) E) → after (codes "inc ") line ≡ Some behind_inc → moment_at behind_inc ≡ Some (start, behind_start) → end_at behind_start ≡ Some (end, tail)
      → IfOk read (λ o. IfSome o (λ l. IsRow (row_in l))) → IfOk read (λ o. IfSome o (λ l. l.start ≡ start)) → IfOk read (λ o. IfSome o (λ l. l.end ≡ end))
      → IfOk read (λ o. IfSome o (λ l. l.tail.now.is_exact ≡ true → IsTail l.tail.now.tags l.tail.now.annotation tail)) → IfOk read (λ o. IfSome o (λ l. l.tail.now.is_exact ≡ true → IsExact line (row_in l)))
  exact_read (Err e) inc first last row starts ends exact = tt
  exact_read (Ok None) inc first last row starts ends exact = tt
  exact_read (Ok (Some l)) inc first last row starts ends exact = λ is. exact_line line behind_inc behind_start tail start end (row_in l) inc first last starts ends row (exact is)
