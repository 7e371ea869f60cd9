-- Tags and an annotation that are written are read back.
use Rattle.std.specs.Prelude.{nat_lt, fold, not}
use Rattle.std.proofs.Common.{◌≡◌, ◌⊎◌, inl, inr, ⊎_elim, ℕ, Bool, true, false, cond, ◌||◌, ◌==◌, List, [], ◌∷◌, ◌++◌, length, Some, None, refl, sym, ap, subst, ◌∙◌, arith, append_assoc}
use Rattle.std.proofs.lemmas.List.{append-nil}
use Rattle.std.proofs.lemmas.Bool.Decides.{nat_tests}
use Rattle.std.specs.List.{list_any, AllByRecursion}
use Rattle.std.proofs.lemmas.List.Sums.{fold-append}
use Rattle.std.proofs.lemmas.Cmp.{nat_list_cmp_total}
use Rattle.std.specs.FinMap.Entries.{by_order}
use Rattle.std.specs.Str.{is_utf8}
use Rattle.std.specs.declared.cmp.Ordering.TheVariants.{Less, Greater}
use Rattle.std.specs.Ordering.{ordering_reverse}
use Rattle.tw_world.specs.Folder.{bytes_cmp, add_name as add_tag}
use Rattle.timew_interval.specs.ReadBack.{IsGoodTag}
use Rattle.timew_month.specs.declared.read.reader.Mode.{Mode}
use Rattle.timew_month.specs.declared.read.reader.Mode.TheVariants.{Ahead, Bare, Quoted, Escaped, Closed, Sign, Quote, Backslash, Failed}
use Rattle.timew_interval.specs.Interval.{is_printable, is_tag, tags_rise, tags_rise_from}
use Rattle.timew_interval.specs.Line.{is_special, is_escaped, escaped, quoted, tag_text, tags_text, note_text, tail_text}
use Rattle.timew_month.specs.Tail.{Reading, start, in_mode, with_byte, with_tag, with_last, moved, stepped, ended, marked, tail_of}
use Rattle.timew_interval.proofs.Placed.{true_or_false}
use Rattle.timew_interval.proofs.Tests.{both, is_less}

-- a byte that is no control character
pub plain : (r : Reading) (b : ℕ) → not (nat_lt b 32 || (b == 127)) ≡ true → stepped r b ≡ moved r.mode b r
plain r b is = not_so (nat_lt b 32 || (b == 127)) is
  where
    not_so : (c : Bool) → not c ≡ true → cond c (in_mode Failed r) (moved r.mode b r) ≡ moved r.mode b r
    not_so true is = absurd (cc)
    not_so false is = refl

pub neither : (a b : Bool) → a || b ≡ false → (a ≡ false) × (b ≡ false)
neither true b is = absurd (cc)
neither false b is = (refl, is)

pub pushed : (x t : List ℕ) (b : ℕ) → (x ++ b ∷ []) ++ t ≡ x ++ b ∷ t
pushed x t b = append_assoc x (b ∷ []) t

-- a byte in a tag without quotes
bare_byte : (r : Reading) (b : ℕ) → is_special b ≡ false → moved Bare b r ≡ with_byte Bare b r
bare_byte r b none = grind (arith, nat_tests)

ahead_byte : (r : Reading) (b : ℕ) → is_special b ≡ false → moved Ahead b r ≡ with_byte Bare b r
ahead_byte r b none = grind (arith, nat_tests)

bare_more : (t x : List ℕ) (tags : List (List ℕ)) → is_printable t ≡ true → list_any is_special t ≡ false → fold stepped (record { mode = Bare; text = x; tags = tags }) t ≡ record { mode = Bare; text = x ++ t; tags = tags }
bare_more [] x tags print none = ap (λ (l : List ℕ). let r : Reading = record { mode = Bare; text = l; tags = tags } in r) (sym (append-nil x))
bare_more (b ∷ t) x tags print none =
    let here : Reading = record { mode = Bare; text = x; tags = tags } in
    let p = both _ _ print in
    let n = neither _ _ none in
    ap (λ (r : Reading). fold stepped r t) (plain here b p.0 ∙ bare_byte here b n.0)
    ∙ bare_more t (x ++ b ∷ []) tags p.1 n.1
    ∙ ap (λ (l : List ℕ). let r : Reading = record { mode = Bare; text = l; tags = tags } in r) (pushed x t b)

-- a tag without quotes
pub bare_tag : (t : List ℕ) (tags : List (List ℕ)) → is_tag t ≡ true → list_any is_special t ≡ false → fold stepped (record { mode = Ahead; text = []; tags = tags }) t ≡ record { mode = Bare; text = t; tags = tags }
bare_tag [] tags is none = absurd (cc)
bare_tag (b ∷ t) tags is none =
    let here : Reading = record { mode = Ahead; text = []; tags = tags } in
    let p = both _ _ is in
    let n = neither _ _ none in
    ap (λ (r : Reading). fold stepped r t) (plain here b p.0 ∙ ahead_byte here b n.0) ∙ bare_more t (b ∷ []) tags p.1 n.1

-- bytes in quotes: of a tag, and of an annotation
quoted_byte : (r : Reading) (b : ℕ) → is_escaped b ≡ false → moved Quoted b r ≡ with_byte Quoted b r
quoted_byte r b none = grind (arith, nat_tests)

quote_byte : (r : Reading) (b : ℕ) → is_escaped b ≡ false → moved Quote b r ≡ with_byte Quote b r
quote_byte r b none = grind (arith, nat_tests)

abbrev Next : Mode → Mode → Type 0
Next mode slash = ((r : Reading) (b : ℕ) → is_escaped b ≡ false → moved mode b r ≡ with_byte mode b r)
    × ((r : Reading) → moved mode 92 r ≡ in_mode slash r) × ((r : Reading) (b : ℕ) → is_escaped b ≡ true → moved slash b r ≡ with_byte mode b r)

pub of_tag : Next Quoted Escaped
of_tag = (quoted_byte, λ r. refl, λ r b is. ap (λ c. cond c (with_byte Quoted b r) (in_mode Failed r)) is)

of_note : Next Quote Backslash
of_note = (quote_byte, λ r. refl, λ r b is. ap (λ c. cond c (with_byte Quote b r) (in_mode Failed r)) is)

pub quoted_more : (mode slash : Mode) → Next mode slash → (t x : List ℕ) (tags : List (List ℕ)) → is_printable t ≡ true → fold stepped (record { mode = mode; text = x; tags = tags }) (escaped t) ≡ record { mode = mode; text = x ++ t; tags = tags }
quoted_more mode slash next [] x tags print = ap (λ (l : List ℕ). let r : Reading = record { mode = mode; text = l; tags = tags } in r) (sym (append-nil x))
quoted_more mode slash next (b ∷ t) x tags print =
    let here : Reading = record { mode = mode; text = x; tags = tags } in
    let p = both _ _ print in
    let rest = quoted_more mode slash next t (x ++ b ∷ []) tags p.1 ∙ ap (λ (l : List ℕ). let r : Reading = record { mode = mode; text = l; tags = tags } in r) (pushed x t b) in
    elim (true_or_false (is_escaped b)) [
      | inl is ↦ ap (λ c. fold stepped here (cond c (92 ∷ b ∷ escaped t) (b ∷ escaped t))) is
          ∙ ap (λ (r : Reading). fold stepped (stepped r b) (escaped t)) (plain here 92 refl ∙ next.1 here)
          ∙ ap (λ (r : Reading). fold stepped r (escaped t)) (plain (in_mode slash here) b p.0 ∙ next.2 (in_mode slash here) b is) ∙ rest
      | inr none ↦ ap (λ c. fold stepped here (cond c (92 ∷ b ∷ escaped t) (b ∷ escaped t))) none
          ∙ ap (λ (r : Reading). fold stepped r (escaped t)) (plain here b p.0 ∙ next.0 here b none) ∙ rest
    ]

-- a tag has been read
abbrev pub IsRead : List ℕ → List (List ℕ) → Reading → Type 0
IsRead t tags r = (r ≡ record { mode = Bare; text = t; tags = tags }) ⊎ (r ≡ record { mode = Closed; text = t; tags = tags })

tag_read : (t : List ℕ) (tags : List (List ℕ)) → is_tag t ≡ true → IsRead t tags (fold stepped (record { mode = Ahead; text = []; tags = tags }) (tag_text t))
tag_read t tags is = ⊎_elim
    (λ some. inr (ap (λ c. fold stepped here (cond c (quoted t) t)) some ∙ fold-append stepped (in_mode Quoted here) (escaped t) (34 ∷ []) ∙ ap (λ (r : Reading). stepped r 34) (quoted_more Quoted Escaped of_tag t [] tags (printable t is))))
    (λ none. inl (ap (λ c. fold stepped here (cond c (quoted t) t)) none ∙ bare_tag t tags is none))
    (true_or_false (list_any is_special t))
  where
    here : Reading
    here = record { mode = Ahead; text = []; tags = tags }

    printable : (t : List ℕ) → is_tag t ≡ true → is_printable t ≡ true
    printable [] is = refl
    printable (b ∷ t) is = is

long_tag : (t : List ℕ) → is_tag t ≡ true → (length t == 0) ≡ false
long_tag [] is = absurd (cc)
long_tag (b ∷ t) is = grind (arith, nat_tests)

-- a space follows a tag, or the end
pub tag_ended : (t : List ℕ) (tags : List (List ℕ)) (r : Reading) → IsGoodTag t → IsRead t tags r → (stepped r 32 ≡ record { mode = Ahead; text = []; tags = add_tag t tags }) × (ended r ≡ Some (add_tag t tags, []))
tag_ended t tags r good (inl bare) = (
  ap (λ (x : Reading). stepped x 32) bare ∙ ap (λ c. cond c (record { mode = Ahead; text = []; tags = add_tag t tags }) (record { mode = Failed; text = t; tags = tags })) good.1,
  ap ended bare ∙ ap (λ c. cond c (Some (add_tag t tags, [])) None) good.1,
)
tag_ended t tags r good (inr closed) = (
  ap (λ (x : Reading). stepped x 32) closed ∙ ap (λ c. cond (not c) (with_tag (record { mode = Closed; text = t; tags = tags })) (record { mode = Failed; text = t; tags = tags })) (long_tag t good.0)
      ∙ ap (λ c. cond c (record { mode = Ahead; text = []; tags = add_tag t tags }) (record { mode = Failed; text = t; tags = tags })) good.1,
  ap ended closed ∙ ap (λ c. cond c None (with_last (record { mode = Closed; text = t; tags = tags }))) (long_tag t good.0) ∙ ap (λ c. cond c (Some (add_tag t tags, [])) None) good.1,
)

-- tags added one after another
abbrev pub added : List (List ℕ) → List (List ℕ) → List (List ℕ)
added tags [] = tags
added tags (t ∷ more) = added (add_tag t tags) more

pub record ReadAll (all : List (List ℕ)) (r : Reading) : Type 0 where
  pub last : List ℕ
  pub before : List (List ℕ)
  pub read : IsRead last before r
  pub good : IsGoodTag last
  pub is : add_tag last before ≡ all

tags_read : (more : List (List ℕ)) (t : List ℕ) (tags : List (List ℕ)) → AllByRecursion IsGoodTag (t ∷ more) → ReadAll (added tags (t ∷ more)) (fold stepped (record { mode = Ahead; text = []; tags = tags }) (tags_text (t ∷ more)))
tags_read [] t tags good = record { last = t; before = tags; read = tag_read t tags good.0.0; good = good.0; is = refl }
tags_read (next ∷ more) t tags good =
    subst (ReadAll (added tags (t ∷ next ∷ more))) (sym (
    fold-append stepped (record { mode = Ahead; text = []; tags = tags }) (tag_text t) (32 ∷ tags_text (next ∷ more))
    ∙ ap (λ (r : Reading). fold stepped r (tags_text (next ∷ more))) (tag_ended t tags _ good.0 (tag_read t tags good.0.0)).0))
    (tags_read more next (add_tag t tags) good.1)

-- an annotation after tags
pub note_read : (tags : List (List ℕ)) (note : List ℕ) → is_printable note ≡ true → is_utf8 note ≡ true → ended (fold stepped (record { mode = Sign; text = []; tags = tags }) (32 ∷ quoted note)) ≡ Some (tags, note)
note_read tags note print utf8 =
    ap ended (fold-append stepped (record { mode = Quote; text = []; tags = tags }) (escaped note) (34 ∷ []) ∙ ap (λ (r : Reading). stepped r 34) (quoted_more Quote Backslash of_note note [] tags print))
    ∙ ap (λ c. cond c (Some (tags, note)) None) utf8

marked_back : (more : List (List ℕ)) (t : List ℕ) (note : List ℕ) → AllByRecursion IsGoodTag (t ∷ more) → is_printable note ≡ true → is_utf8 note ≡ true
    → ended (fold stepped start (tags_text (t ∷ more) ++ note_text note)) ≡ Some (added [] (t ∷ more), note)
marked_back more t [] good print utf8 =
    let all = tags_read more t [] good in
    ap (λ (l : List ℕ). ended (fold stepped start l)) (append-nil (tags_text (t ∷ more))) ∙ (tag_ended all.last all.before _ all.good all.read).1 ∙ ap (λ (l : List (List ℕ)). Some (l, [])) all.is
marked_back more t (b ∷ note) good print utf8 =
    let all = tags_read more t [] good in
    ap ended (fold-append stepped start (tags_text (t ∷ more)) (note_text (b ∷ note)) ∙ ap (λ (r : Reading). fold stepped (stepped r 35) (32 ∷ quoted (b ∷ note))) (tag_ended all.last all.before _ all.good all.read).0)
    ∙ note_read (add_tag all.last all.before) (b ∷ note) print utf8 ∙ ap (λ (l : List (List ℕ)). Some (l, b ∷ note)) all.is

-- ---- tags that rise

turned : (a b : List ℕ) → bytes_cmp a b ≡ Less → bytes_cmp b a ≡ Greater
turned a b is = nat_list_cmp_total.antisymm b a ∙ ap ordering_reverse is

below_later : (us : List (List ℕ)) (u t : List ℕ) (ts : List (List ℕ)) → tags_rise_from u (us ++ t ∷ ts) ≡ true → bytes_cmp u t ≡ Less
below_later [] u t ts rise = is_less _ (both _ _ rise).0
below_later (v ∷ us) u t ts rise = nat_list_cmp_total.trans u v t (is_less _ (both _ _ rise).0) (below_later us v t ts (both _ _ rise).1)

added_last : (us : List (List ℕ)) (t : List ℕ) (ts : List (List ℕ)) → tags_rise (us ++ t ∷ ts) ≡ true → add_tag t us ≡ us ++ t ∷ []
added_last [] t ts rise = refl
added_last (u ∷ us) t ts rise = ap (λ o. by_order o (t ∷ u ∷ us) (u ∷ us) (u ∷ add_tag t us)) (turned u t (below_later us u t ts rise)) ∙ ap (λ (l : List (List ℕ)). u ∷ l) (added_last us t ts (rise_later us u t ts rise))
  where
    rise_later : (us : List (List ℕ)) (u t : List ℕ) (ts : List (List ℕ)) → tags_rise_from u (us ++ t ∷ ts) ≡ true → tags_rise (us ++ t ∷ ts) ≡ true
    rise_later [] u t ts rise = (both _ _ rise).1
    rise_later (v ∷ us) u t ts rise = (both _ _ rise).1

added_all : (ts us : List (List ℕ)) → tags_rise (us ++ ts) ≡ true → added us ts ≡ us ++ ts
added_all [] us rise = sym (append-nil us)
added_all (t ∷ ts) us rise =
    ap (λ (l : List (List ℕ)). added l ts) (added_last us t ts rise) ∙ added_all ts (us ++ t ∷ []) (ap tags_rise (append_assoc us (t ∷ []) ts) ∙ rise) ∙ append_assoc us (t ∷ []) ts

-- what is written after the moments of a line is read back
pub tail_back : (tags : List (List ℕ)) (note : List ℕ) → AllByRecursion IsGoodTag tags → tags_rise tags ≡ true → is_printable note ≡ true → is_utf8 note ≡ true → tail_of (tail_text tags note) ≡ Some (tags, note)
unfolding marked
tail_back [] [] good rise print utf8 = refl
tail_back [] (b ∷ note) good rise print utf8 = note_read [] (b ∷ note) print utf8
tail_back (t ∷ tags) note good rise print utf8 = marked_back tags t note good print utf8 ∙ ap (λ (l : List (List ℕ)). Some (l, note)) (added_all (t ∷ tags) [] rise)
