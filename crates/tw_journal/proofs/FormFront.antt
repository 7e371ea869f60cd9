-- The form of a file, from its first bytes.
use Rattle.std.specs.Prelude.{◌&&◌, nat_eq, nat_le, cond, if◌then◌else◌, Bool, true, false, Option, Some, None, min, slice_index_or}
use Rattle.std.specs.Int.{from_be_bytes, w64}
use Rattle.std.proofs.Common.{◌≡◌, inl, inr, ℕ, zero, suc, ◌-◌, ◌<◌, ◌≤◌, List, [], ◌∷◌, length, get_or, take, drop, refl, sym, ◌∙◌, ap, subst, arith}
use Rattle.std.proofs.lemmas.List.{take_all, length-take, get_or-take}
use Rattle.std.proofs.lemmas.Bool.Decides.{leb_tells}
use lib.Pointwise.{pointwise}
use Rattle.tw_journal.specs.Record.{behind_gate, IsTail}
use Rattle.tw_journal.specs.Form.{selector_in, version_in, takes_version, has_magic, slot_in, if_inside, last_in, is_alone, if_alone, start_by, start_in}
use Rattle.tw_journal.proofs.Forms.{not_above, test_holds, test_fails, alone_again, by_bounds, part_of_front, first_of_front}

outside_by : (a b : Bool) (at : ℕ) → (a ≡ true → b ≡ true → ⊥) → (if a && b then Some at else None) ≡ None
outside_by true true at never = absurd (never refl refl)
outside_by true false at never = refl
outside_by false b at never = refl

pub outside : (least at : ℕ) (file : List ℕ) → (least ≤ at → at ≤ length file → ⊥) → if_inside least at file ≡ None
outside least at file never = outside_by (nat_le least at) (nat_le at (length file)) at (λ a b. never (not_above least at a) (not_above at (length file) b))

-- there is no record apart
pub none_apart : (at : ℕ) (file : List ℕ) → at ≡ last_in file → (29 ≤ at → is_alone (drop at file) ≡ true → ⊥) → None ≡ start_by 4 file
none_apart at file is never = sym (ap (λ (k : ℕ). if_alone k file) (sym is) ∙ outside_by (nat_le 29 at) (is_alone (drop at file)) at (λ a b. never (not_above 29 at a) b))

pub one_apart : (at : ℕ) (file : List ℕ) → at ≡ last_in file → 29 ≤ at → is_alone (drop at file) ≡ true → Some at ≡ start_by 4 file
one_apart at file is low alone = sym (ap (λ (k : ℕ). if_alone k file) (sym is) ∙ alone_again at file low alone)

-- bytes that are too few for a magic
pub short_magic : (magic front : List ℕ) → length front < 13 → false ≡ has_magic magic front
short_magic magic front short = sym (ap (λ (b : Bool). b && (pointwise nat_eq (take 11 (drop 1 front)) (take 11 (behind_gate magic)) && takes_version magic (version_in front))) (test_fails 13 (length front) short))

and_false : (b : Bool) → (b && false) ≡ false
and_false true = refl
and_false false = refl

-- another text than the magic's
pub other_magic : (magic front : List ℕ) → pointwise nat_eq (take 11 (drop 1 front)) (take 11 (behind_gate magic)) ≡ false → false ≡ has_magic magic front
other_magic magic front other = sym (ap (λ (t : Bool). nat_le 13 (length front) && (t && takes_version magic (version_in front))) other ∙ and_false (nat_le 13 (length front)))

-- the magic's text, with some version
pub text_is : (magic front : List ℕ) → 13 ≤ length front → pointwise nat_eq (take 11 (drop 1 front)) (take 11 (behind_gate magic)) ≡ true → takes_version magic (version_in front) ≡ has_magic magic front
text_is magic front long text = let e = test_holds 13 (length front) long in sym (λ i. e i && (text i && takes_version magic (version_in front)))

pub slot_of_front : (at : ℕ) (front file : List ℕ) → at ≤ 21 → front ≡ take 29 file → slot_in at front ≡ slot_in at file
slot_of_front at front file le is = ap (λ (l : List ℕ). from_be_bytes w64 (take 8 (drop at l))) is ∙ ap (from_be_bytes w64) (part_of_front 8 at 29 file (omega (arith, le)))

long_of_front : (front file : List ℕ) → front ≡ take 29 file → nat_le 13 (length front) ≡ nat_le 13 (length file)
long_of_front front file is = elim (leb_tells 13 (length file)) [
  | inl low ↦ test_holds 13 (length front) (omega (arith, low.1, ap length is, length-take 29 file)) ∙ sym (test_holds 13 (length file) low.1)
  | inr high ↦ test_fails 13 (length front) (omega (arith, high.1, ap length is, length-take 29 file)) ∙ sym (test_fails 13 (length file) high.1)
]

pub version_of_front : (front file : List ℕ) → front ≡ take 29 file → version_in front ≡ version_in file
version_of_front front file is = ap (λ (l : List ℕ). get_or l 12 0) is ∙ get_or-take 29 file 12 0 (omega arith)

pub magic_of_front : (magic front file : List ℕ) → front ≡ take 29 file → has_magic magic front ≡ has_magic magic file
magic_of_front magic front file is =
    let long = long_of_front front file is in
    let text : take 11 (drop 1 front) ≡ take 11 (drop 1 file) = ap (λ (l : List ℕ). take 11 (drop 1 l)) is ∙ part_of_front 11 1 29 file (omega arith) in
    let version = version_of_front front file is in
    λ i. long i && (pointwise nat_eq (text i) (take 11 (behind_gate magic)) && takes_version magic (version i))

first_is : (l : List ℕ) → slice_index_or l 0 0 ≡ selector_in l
first_is [] = refl
first_is (x ∷ l) = refl

pub selector_of_front : (front file : List ℕ) → front ≡ take 29 file → slice_index_or front 0 0 ≡ selector_in file
selector_of_front front file is = first_is front ∙ ap selector_in is ∙ first_of_front 29 file (omega arith)

pub other_none : (n : ℕ) (file : List ℕ) → (n ≡ 1 → ⊥) → (n ≡ 2 → ⊥) → (n ≡ 3 → ⊥) → (n ≡ 4 → ⊥) → start_by n file ≡ None
other_none zero file a b c d = refl
other_none (suc zero) file a b c d = absurd (a refl)
other_none (suc (suc zero)) file a b c d = absurd (b refl)
other_none (suc (suc (suc zero))) file a b c d = absurd (c refl)
other_none (suc (suc (suc (suc zero)))) file a b c d = absurd (d refl)
other_none (suc (suc (suc (suc (suc n))))) file a b c d = refl

-- the form that the first bytes of a file give
pub form_is : (magic front file : List ℕ) (o : Option ℕ) → front ≡ take 29 file → has_magic magic front ≡ true → o ≡ start_by (slice_index_or front 0 0) file → start_in magic file ≡ o
form_is magic front file o is has start =
    ap (λ (b : Bool). cond b (start_by (selector_in file) file) None) (sym (magic_of_front magic front file is) ∙ has)
    ∙ ap (λ (n : ℕ). start_by n file) (sym (selector_of_front front file is))
    ∙ sym start

pub no_magic : (magic front file : List ℕ) → front ≡ take 29 file → has_magic magic front ≡ false → start_in magic file ≡ None
no_magic magic front file is none = ap (λ (b : Bool). cond b (start_by (selector_in file) file) None) (sym (magic_of_front magic front file is) ∙ none)

pub too_short : (magic file : List ℕ) → length file < 13 → start_in magic file ≡ None
too_short magic file short = by (has_magic magic file) (start_by (selector_in file) file) (λ s e. by_bounds (selector_in file) s file e)
  where
    by : (b : Bool) (o : Option ℕ) → ((s : ℕ) → o ≡ Some s → (13 ≤ s) × (s ≤ length file) × (selector_in file < 5) × (2 ≤ selector_in file → 29 ≤ s) × (selector_in file ≡ 0 → ⊥)) → cond b o None ≡ None
    by false o bounds = refl
    by true None bounds = refl
    by true (Some s) bounds = let r = bounds s refl in absurd (omega (arith, r.0, r.1, short))

-- what is read of a file's first bytes
pub front_read : (k : ℕ) (front file : List ℕ) → k ≡ min (length file) 29 → front ≡ take k file → front ≡ take 29 file
front_read k front file least is = elim (leb_tells (length file) 29) [
  | inl low ↦ is ∙ take_all k file (omega (arith, least, low.1)) ∙ sym (take_all 29 file low.1)
  | inr high ↦ let k_is : k ≡ 29 = omega (arith, least, high.1) in is ∙ ap (λ (i : ℕ). take i file) k_is
]

-- a file that has something has it in its first bytes
pub tail_of_front : (front file : List ℕ) → front ≡ take 29 file → (IsTail front → ⊥) → IsTail file → ⊥
tail_of_front front [] is none tail = none (subst IsTail (sym is) tt)
tail_of_front front (x ∷ l) is none tail = none (subst IsTail (sym is) tail)

pub tail_in_front : (front file : List ℕ) → front ≡ take 29 file → IsTail front → IsTail file
tail_in_front front [] is tail = tt
tail_in_front front (x ∷ l) is tail = subst IsTail is tail
