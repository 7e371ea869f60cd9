-- Tags without quotes, one after another, as they are written.
use Rattle.std.specs.Prelude.{nat_lt, not}
use Rattle.std.proofs.Common.{◌≡◌, ℕ, ◌+◌, ◌<◌, Bool, true, false, cond, Option, Some, None, ◌&&◌, ◌||◌, ◌==◌, List, [], ◌∷◌, ◌++◌, length, get_or, refl, sym, ap, subst, ◌∙◌, arith, append_assoc, length-append}
use Rattle.std.specs.List.{list_any, list_all, AllByRecursion}
use Rattle.std.specs.Ordering.{is_lt}
use Rattle.std.specs.Str.{is_utf8}
use Rattle.std.proofs.lemmas.List.{append-nil}
use Rattle.std.proofs.lemmas.List.Concat.{flat_map-append}
use Rattle.tw_world.specs.Folder.{bytes_cmp}
use Rattle.timew_month.specs.Exact.{AreWritten, AreTaken, IsFirstTag, spaced}
use Rattle.timew_interval.specs.Interval.{is_printable, is_tag, tags_rise, tags_rise_from}
use Rattle.timew_interval.specs.Line.{is_special, is_bare, quoted, tag_text, tags_text}
use Rattle.timew_interval.specs.ReadBack.{IsGoodTag}
use Rattle.timew_month.proofs.TailReadBack.{neither}
use Rattle.timew_interval.proofs.Tests.{both}

not_true : (b : Bool) → not b ≡ true → b ≡ false
not_true true is = absurd (cc)
not_true false is = refl

not_false : (b : Bool) → b ≡ false → not b ≡ true
not_false b is = ap not is

record IsPlain (t : List ℕ) : Type 0 where
  pub print : is_printable t ≡ true
  pub none : list_any is_special t ≡ false

joined : (a b : Bool) → a ≡ true → b ≡ true → a && b ≡ true
joined true b is also = also
joined false b is also = absurd (cc)

neither_of : (a b : Bool) → a ≡ false → b ≡ false → a || b ≡ false
neither_of false b is also = also
neither_of true b is also = absurd (cc)

plain_bytes : (t : List ℕ) → list_all is_bare t ≡ true → IsPlain t
plain_bytes [] is = record { print = refl; none = refl }
plain_bytes (b ∷ t) is =
    let parts = both (is_bare b) (list_all is_bare t) is in
    let here = neither (is_special b) (nat_lt b 32 || (b == 127)) (not_true (is_special b || (nat_lt b 32 || (b == 127))) parts.0) in
    let rest = plain_bytes t parts.1 in
    record {
      print = joined (not (nat_lt b 32 || (b == 127))) (is_printable t) (not_false (nat_lt b 32 || (b == 127)) here.1) rest.print;
      none = neither_of (is_special b) (list_any is_special t) here.0 rest.none;
    }

tag_of_some : (t : List ℕ) → 0 < length t → is_printable t ≡ true → is_tag t ≡ true
tag_of_some [] some is = absurd (omega arith)
tag_of_some (b ∷ t) some is = is

-- ---- the text of tags

then_text : (t : List ℕ) (tags : List (List ℕ)) → 0 < length tags → tags_text (t ∷ tags) ≡ tag_text t ++ 32 ∷ tags_text tags
then_text t [] some = absurd (omega arith)
then_text t (u ∷ tags) some = refl

text_push : (tags : List (List ℕ)) (t : List ℕ) → tags_text (tags ++ t ∷ []) ≡ spaced tags ++ tag_text t
text_push [] t = refl
text_push (u ∷ tags) t =
    then_text u (tags ++ t ∷ []) (omega (arith, length-append tags (t ∷ [])))
    ∙ ap (λ (l : List ℕ). tag_text u ++ 32 ∷ l) (text_push tags t)
    ∙ sym (append_assoc (tag_text u) (32 ∷ []) (spaced tags ++ tag_text t))
    ∙ sym (append_assoc (tag_text u ++ 32 ∷ []) (spaced tags) (tag_text t))

spaced_push : (tags : List (List ℕ)) (t : List ℕ) → spaced (tags ++ t ∷ []) ≡ spaced tags ++ (tag_text t ++ 32 ∷ [])
spaced_push tags t = flat_map-append (λ (t : List ℕ). tag_text t ++ 32 ∷ []) tags (t ∷ []) ∙ ap (λ (l : List ℕ). spaced tags ++ l) (append-nil (tag_text t ++ 32 ∷ []))

-- ---- tags that rise

rise_from_push : (tags : List (List ℕ)) (u t d : List ℕ) → tags_rise_from u tags ≡ true → is_lt (bytes_cmp (get_or (u ∷ tags) (length tags) d) t) ≡ true → tags_rise_from u (tags ++ t ∷ []) ≡ true
rise_from_push [] u t d rise less = joined (is_lt (bytes_cmp u t)) true less refl
rise_from_push (v ∷ tags) u t d rise less =
    let parts = both (is_lt (bytes_cmp u v)) (tags_rise_from v tags) rise in
    joined (is_lt (bytes_cmp u v)) (tags_rise_from v (tags ++ t ∷ [])) parts.0 (rise_from_push tags v t d parts.1 less)

pub rise_push : (tags : List (List ℕ)) (t last : List ℕ) (n : ℕ) → tags_rise tags ≡ true → n + 1 ≡ length tags → last ≡ get_or tags n [] → is_lt (bytes_cmp last t) ≡ true → tags_rise (tags ++ t ∷ []) ≡ true
rise_push [] t last n rise is at less = absurd (omega (arith, is))
rise_push (u ∷ tags) t last n rise is at less =
    let here : n ≡ length tags = omega (arith, is) in
    rise_from_push tags u t [] rise (subst (λ (l : List ℕ). is_lt (bytes_cmp l t) ≡ true) (at ∙ ap (λ (k : ℕ). get_or (u ∷ tags) k []) here) less)

pub rise_alone : (tags : List (List ℕ)) (t : List ℕ) → length tags ≡ 0 → tags_rise (tags ++ t ∷ []) ≡ true
rise_alone [] t none = refl
rise_alone (u ∷ tags) t none = absurd (omega (arith, none))

-- ---- one tag after another

-- a tag that is taken next
pub record IsNext (tags : List (List ℕ)) (tag : List ℕ) : Type 0 where
  pub some : 0 < length tag
  pub bare : list_all is_bare tag ≡ true
  pub utf8 : is_utf8 tag ≡ true
  pub rise : tags_rise (tags ++ tag ∷ []) ≡ true

good_push : (tags : List (List ℕ)) (t : List ℕ) → AllByRecursion IsGoodTag tags → IsGoodTag t → AllByRecursion IsGoodTag (tags ++ t ∷ [])
good_push [] t all here = (here, tt)
good_push (u ∷ tags) t all here = (all.0, good_push tags t all.1 here)

module _ (tags : List (List ℕ)) (rest bytes tag : List ℕ) (taken : AreTaken tags rest bytes) (next : IsNext tags tag) where
  plain : IsPlain tag
  plain = plain_bytes tag next.bare

  as_it_is : tag_text tag ≡ tag
  as_it_is = ap (λ (b : Bool). cond b (quoted tag) tag) plain.none

  good : AllByRecursion IsGoodTag (tags ++ tag ∷ [])
  good = good_push tags tag taken.good (tag_of_some tag next.some plain.print, next.utf8)

  -- with a space after it
  pub one_more : (after : List ℕ) → rest ≡ tag ++ 32 ∷ after → AreTaken (tags ++ tag ∷ []) after bytes
  one_more after is = record {
    text = taken.text ∙ ap (λ (l : List ℕ). spaced tags ++ l) (is ∙ ap (λ (l : List ℕ). l ++ 32 ∷ after) (sym as_it_is) ∙ sym (append_assoc (tag_text tag) (32 ∷ []) after))
        ∙ sym (append_assoc (spaced tags) (tag_text tag ++ 32 ∷ []) after) ∙ ap (λ (l : List ℕ). l ++ after) (sym (spaced_push tags tag));
    good = good;
    rise = next.rise;
  }

  -- at the end
  pub the_last : rest ≡ tag → AreWritten (tags ++ tag ∷ []) bytes
  the_last is = record {
    text = taken.text ∙ ap (λ (l : List ℕ). spaced tags ++ l) (is ∙ sym as_it_is) ∙ sym (text_push tags tag);
    good = good;
    rise = next.rise;
    some = omega (arith, length-append tags (tag ∷ []));
  }

nothing_taken : (bytes : List ℕ) → AreTaken [] bytes bytes
nothing_taken bytes = record { text = refl; good = tt; rise = refl }

next_of : (tags : List (List ℕ)) (tag rest : List ℕ) (behind : Option (List ℕ)) → IsFirstTag tag behind rest → tags_rise (tags ++ tag ∷ []) ≡ true → IsNext tags tag
next_of tags tag rest behind first rise = record { some = first.some; bare = first.bare; utf8 = first.utf8; rise = rise }

pub taken_more : (tags : List (List ℕ)) (rest bytes tag more : List ℕ) → AreTaken tags rest bytes → IsFirstTag tag (Some more) rest → tags_rise (tags ++ tag ∷ []) ≡ true → AreTaken (tags ++ tag ∷ []) more bytes
taken_more tags rest bytes tag more taken first rise = one_more tags rest bytes tag taken (next_of tags tag rest (Some more) first rise) more first.text

pub taken_last : (tags : List (List ℕ)) (rest bytes tag : List ℕ) → AreTaken tags rest bytes → IsFirstTag tag None rest → tags_rise (tags ++ tag ∷ []) ≡ true → AreWritten (tags ++ tag ∷ []) bytes
taken_last tags rest bytes tag taken first rise = the_last tags rest bytes tag taken (next_of tags tag rest None first rise) (first.text ∙ append-nil tag)

taken_first : (bytes tag more : List ℕ) → IsFirstTag tag (Some more) bytes → AreTaken (tag ∷ []) more bytes
taken_first bytes tag more first = taken_more [] bytes bytes tag more (nothing_taken bytes) first refl

-- one tag, two tags, and two with more after them
pub only_tag : (bytes tag : List ℕ) → IsFirstTag tag None bytes → AreWritten (tag ∷ []) bytes
only_tag bytes tag first = taken_last [] bytes bytes tag (nothing_taken bytes) first refl

rise_two : (a b : List ℕ) → is_lt (bytes_cmp a b) ≡ true → tags_rise (a ∷ b ∷ []) ≡ true
rise_two a b less = joined (is_lt (bytes_cmp a b)) true less refl

pub two_written : (bytes tag rest next : List ℕ) → IsFirstTag tag (Some rest) bytes → IsFirstTag next None rest → is_lt (bytes_cmp tag next) ≡ true → AreWritten (tag ∷ next ∷ []) bytes
two_written bytes tag rest next first second less = taken_last (tag ∷ []) rest bytes next (taken_first bytes tag rest first) second (rise_two tag next less)

pub two_taken : (bytes tag rest next more : List ℕ) → IsFirstTag tag (Some rest) bytes → IsFirstTag next (Some more) rest → is_lt (bytes_cmp tag next) ≡ true → AreTaken (tag ∷ next ∷ []) more bytes
two_taken bytes tag rest next more first second less = taken_more (tag ∷ []) rest bytes next more (taken_first bytes tag rest first) second (rise_two tag next less)

pub shorter : (rest tag more : List ℕ) → IsFirstTag tag (Some more) rest → length more < length rest
shorter rest tag more first = omega (arith, ap length first.text, length-append tag (32 ∷ more))
