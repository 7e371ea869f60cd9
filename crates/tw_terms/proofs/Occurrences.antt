-- Where a text occurs in another.
use Rattle.std.proofs.Common.{◌≡◌, ℕ, Bool, true, false, ◌||◌, nat_eq, List, [], ◌∷◌, ◌++◌, length, take, drop, refl, sym, ap, ◌∙◌, ◌↔◌}
use Rattle.std.specs.List.{starts_with}
use Rattle.std.specs.Str.Iter.{HasSubslice}
use Rattle.std.proofs.lemmas.List.{take-append-drop, take_at}
use Rattle.tw_model.specs.Maps.{same_bytes}
use Rattle.tw_model.proofs.Maps.{same_bytes_exact, same_bytes_itself}
use Rattle.tw_terms.specs.Occurs.{occurs, is_word_byte, is_word_here, has_word}

-- a text that begins with another is it and a rest
begins_so : (text value : List ℕ) → starts_with nat_eq text value ≡ true → HasSubslice text value
begins_so text value e =
    ([], drop (length value) text, sym (take-append-drop (length value) text) ∙ ap (λ t. t ++ drop (length value) text) (sym (same_bytes_exact value (take (length value) text) e)))

front_is : (value rest : List ℕ) → starts_with nat_eq (value ++ rest) value ≡ true
front_is value rest = ap (same_bytes value) (take_at value rest (length value) refl) ∙ same_bytes_itself value

or_left : (a b : Bool) → a ≡ true → (a || b) ≡ true
or_left true b e = refl
or_left false b e = absurd (cc)

or_right : (a b : Bool) → b ≡ true → (a || b) ≡ true
or_right true b e = refl
or_right false b e = e

found : (value text : List ℕ) → occurs value text ≡ true → HasSubslice text value
found value [] e = begins_so [] value e
found value (b ∷ bs) e = by (starts_with nat_eq (b ∷ bs) value) refl e (found value bs)
  where
    by : (s : Bool) → starts_with nat_eq (b ∷ bs) value ≡ s → (s || occurs value bs) ≡ true → (occurs value bs ≡ true → HasSubslice bs value) → HasSubslice (b ∷ bs) value
    by true is e later = begins_so (b ∷ bs) value is
    by false is e later = let h = later e in (b ∷ h.0, h.1, ap (λ t. b ∷ t) h.2)

at_place : (value front rest : List ℕ) → occurs value (front ++ (value ++ rest)) ≡ true
at_place [] [] [] = refl
at_place [] [] (b ∷ rest) = refl
at_place (v ∷ vs) [] rest = or_left _ (occurs (v ∷ vs) (vs ++ rest)) (front_is (v ∷ vs) rest)
at_place value (b ∷ front) rest = or_right (starts_with nat_eq (b ∷ (front ++ (value ++ rest))) value) _ (at_place value front rest)

-- `contains` is the search
pub occurs_is : (value text : List ℕ) (r : Bool) → ((r ≡ true) ↔ HasSubslice text value) → r ≡ occurs value text
occurs_is value text r h = by r (occurs value text) (λ t. let s = h.0 t in ap (occurs value) s.2 ∙ at_place value s.0 s.1) (λ t. h.1 (found value text t))
  where
    by : (a b : Bool) → (a ≡ true → b ≡ true) → (b ≡ true → a ≡ true) → a ≡ b
    by true b f g = sym (f refl)
    by false true f g = g refl
    by false false f g = refl

-- a word that begins here is found
pub word_here : (before : Bool) (value text : List ℕ) → is_word_here before value text ≡ true → has_word before value text ≡ true
word_here before value [] e = e
word_here before value (b ∷ bs) e = or_left _ (has_word (is_word_byte b) value bs) e
