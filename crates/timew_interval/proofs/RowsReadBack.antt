-- What was written is read back.
use Rattle.std.proofs.Common.{◌≡◌, ℕ, suc, ◌<◌, Bool, true, false, ◌&&◌, List, [], ◌∷◌, length, refl, subst, arith, Some}
use Rattle.std.specs.Prelude.{slice_index_or, IfSome}
use Rattle.std.specs.List.{AllByRecursion, list_all}
use Rattle.std.specs.Str.{is_utf8}
use Rattle.tw_time.specs.Basic.{basic, basic_moment}
use Rattle.timew_interval.specs.declared.interval.Interval.{Interval}
use Rattle.timew_interval.specs.Interval.{is_tag, IsRow}
use Rattle.timew_interval.specs.ReadBack.{IsPrinted, IsGoodTag, IsWritable}

abbrev pub AreUtf8 : List (List ℕ) → Type 0
AreUtf8 tags = AllByRecursion (λ tag. is_utf8 tag ≡ true) tags

pub utf8_each : (tags : List (List ℕ)) → ((k : ℕ) → k < length tags → is_utf8 (slice_index_or tags k []) ≡ true) → AreUtf8 tags
utf8_each [] each = tt
utf8_each (t ∷ tags) each = (each 0 (omega arith), utf8_each tags (λ k lt. each (suc k) (omega arith)))

pub printed_is : (at : ℕ) (text : List ℕ) → text ≡ basic at → length text ≡ 16 → basic_moment text ≡ Some at → IsPrinted at
printed_is at text is size back = record { back = subst (λ (t : List ℕ). basic_moment t ≡ Some at) is back; size = subst (λ (t : List ℕ). length t ≡ 16) is size }

good_tags : (tags : List (List ℕ)) → list_all is_tag tags ≡ true → AreUtf8 tags → AllByRecursion IsGoodTag tags
good_tags [] are all = tt
good_tags (t ∷ tags) are all = by_case (is_tag t) refl are (λ rest. good_tags tags rest all.1)
  where
    by_case : (b : Bool) → is_tag t ≡ b → (b && list_all is_tag tags) ≡ true → (list_all is_tag tags ≡ true → AllByRecursion IsGoodTag tags) → AllByRecursion IsGoodTag (t ∷ tags)
    by_case true is rest more = ((is, all.0), more rest)
    by_case false is rest more = absurd (cc)

-- a row whose moments are printed and whose texts are UTF-8
pub writable_is : (r : Interval) → IsRow r → IsPrinted r.start → IfSome r.end IsPrinted → AreUtf8 r.tags → is_utf8 r.annotation ≡ true → IsWritable r
writable_is r row start end tags note = record { row = row; start = start; end = end; tags = good_tags r.tags row.tags tags; note = note }
