-- The words of a pile, each at its place.
use Rattle.std.proofs.Common.{◌≡◌, ◌∙◌, ℕ, ◌+◌, ◌≤◌, Bool, true, false, cond, List, [], ◌∷◌, ◌++◌, Option, Some, map, refl, sym, ap, suc, arith}
use Rattle.std.proofs.lemmas.List.{append_assoc, map-append}
use Rattle.std.specs.List.{slice_get}
use Rattle.tw_settings.specs.Settings.{Pair}
use Rattle.tw_words.specs.Lines.{override_in}
use Rattle.tw_words.specs.Places.{Pile, is_pile, picked, RisesFrom}

-- ---- a pile, word by word

abbrev pub word_of : ℕ × List ℕ → List ℕ
word_of x = x.1

abbrev pub place_of : ℕ × List ℕ → ℕ
place_of x = x.0

abbrev pub read_of : ℕ × List ℕ → Option Pair
read_of x = override_in x.1

abbrev pub known : List Pair → List (Option Pair)
known overrides = map (λ (x : Pair). Some x) overrides

-- the rest of a pile comes after its first word
pub picked_on : (pile : Pile) (n : ℕ) (x : Pile × List ℕ) (rest : List (Pile × List ℕ)) → picked pile n (x ∷ rest) ≡ picked pile n (x ∷ []) ++ picked pile (n + 1) rest
picked_on pile n x rest = by (is_pile pile x.0)
  where
    by : (b : Bool) → cond b ((n, x.1) ∷ picked pile (n + 1) rest) (picked pile (n + 1) rest) ≡ cond b ((n, x.1) ∷ []) [] ++ picked pile (n + 1) rest
    by true = refl
    by false = refl

pub joined : {A : Type 0} (f : ℕ × List ℕ → A) (pile : Pile) (n : ℕ) (x : Pile × List ℕ) (rest : List (Pile × List ℕ)) (before between after : List A)
    → between ≡ before ++ map f (picked pile n (x ∷ [])) → after ≡ between ++ map f (picked pile (n + 1) rest) → after ≡ before ++ map f (picked pile n (x ∷ rest))
joined {A = A} f pile n x rest before between after one others =
    others ∙ ap (λ (l : List A). l ++ map f (picked pile (n + 1) rest)) one
    ∙ append_assoc before (map f (picked pile n (x ∷ []))) (map f (picked pile (n + 1) rest))
    ∙ ap (λ (l : List A). before ++ l) (sym (map-append f (picked pile n (x ∷ [])) (picked pile (n + 1) rest)) ∙ ap (map f) (sym (picked_on pile n x rest)))

-- the places of a pile rise
rises_lower : (n : ℕ) (ms : List ℕ) → RisesFrom (n + 1) ms → RisesFrom n ms
rises_lower n [] rise = tt
rises_lower n (m ∷ ms) rise = (lower rise.0, rise.1)
  where
    lower : n + 1 ≤ m → n ≤ m
    lower above = omega (arith, above)

pub rises : (pile : Pile) (n : ℕ) (sorted : List (Pile × List ℕ)) → RisesFrom n (map place_of (picked pile n sorted))
rises pile n [] = tt
rises pile n (x ∷ rest) = by (is_pile pile x.0) (rises pile (n + 1) rest)
  where
    same : n ≤ n
    same = omega arith

    by : (b : Bool) → RisesFrom (n + 1) (map place_of (picked pile (n + 1) rest))
        → RisesFrom n (map place_of (cond b ((n, x.1) ∷ picked pile (n + 1) rest) (picked pile (n + 1) rest)))
    by true others = (same, others)
    by false others = rises_lower n (map place_of (picked pile (n + 1) rest)) others

-- each word of a pile is at its place
pub tells : (given : List (List ℕ)) (pile : Pile) (n : ℕ) (sorted : List (Pile × List ℕ))
    → ((k : ℕ) → slice_get (map (λ (x : Pile × List ℕ). x.1) sorted) k ≡ slice_get given (n + k))
    → map (λ (n : ℕ). slice_get given n) (map place_of (picked pile n sorted)) ≡ map (λ (word : List ℕ). Some word) (map word_of (picked pile n sorted))
tells given pile n [] there = refl
tells given pile n (x ∷ rest) there =
    by (is_pile pile x.0) (tells given pile (n + 1) rest (λ k. there (suc k) ∙ ap (λ (n : ℕ). slice_get given n) (next k)))
  where
    next : (k : ℕ) → n + suc k ≡ n + 1 + k
    next k = omega arith

    no_more : n + 0 ≡ n
    no_more = omega arith

    here : slice_get given n ≡ Some x.1
    here = sym (there 0 ∙ ap (λ (n : ℕ). slice_get given n) no_more)

    by : (b : Bool) → map (λ (n : ℕ). slice_get given n) (map place_of (picked pile (n + 1) rest)) ≡ map (λ (word : List ℕ). Some word) (map word_of (picked pile (n + 1) rest))
        → map (λ (n : ℕ). slice_get given n) (map place_of (cond b ((n, x.1) ∷ picked pile (n + 1) rest) (picked pile (n + 1) rest)))
        ≡ map (λ (word : List ℕ). Some word) (map word_of (cond b ((n, x.1) ∷ picked pile (n + 1) rest) (picked pile (n + 1) rest)))
    by true others = λ i. here i ∷ others i
    by false others = others
