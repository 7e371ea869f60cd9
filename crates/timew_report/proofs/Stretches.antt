-- Stretches of seconds.
use Rattle.std.specs.Prelude.{min, nat_le}
use Rattle.std.proofs.Common.{◌≡◌, ◌⊎◌, inl, inr, ℕ, zero, suc, ◌+◌, ◌-◌, ◌<◌, ◌≤◌, ◌==◌, Bool, true, false, cond, ◌&&◌, List, [], ◌∷◌, refl, sym, ap, subst, ◌∙◌, arith}
use Rattle.std.proofs.lemmas.Bool.{cases_lt, lt-leb, le-leb}
use Rattle.std.proofs.lemmas.Bool.Decides.{nat_tests}
use Rattle.timew_report.specs.Gaps.{Stretch, with_second, stretches}
use Rattle.timew_report.specs.Days.{begins}

-- ---- seconds that are passed by

-- what is made of so many seconds from one on, where a second of a kind adds nothing
module _ {X : Type 0} (f : ℕ → ℕ → X) (P : ℕ → Type 0) (drops : (a n : ℕ) → P a → f a (suc n) ≡ f (suc a) n) where
  skip : (a k n m b : ℕ) → n ≡ k + m → b ≡ a + k → ((s : ℕ) → a ≤ s → s < b → P s) → f a n ≡ f b m
  skip a zero n m b n_is b_is all = (let same : n ≡ m = omega (arith, n_is) in ap (λ x. f a x) same) ∙ (let same : a ≡ b = omega (arith, b_is) in ap (λ x. f x m) same)
  skip a (suc k) zero m b n_is b_is all = absurd (omega (arith, n_is))
  skip a (suc k) (suc n) m b n_is b_is all =
      drops a n (all a (omega arith) (omega (arith, b_is))) ∙ skip (suc a) k n m b (omega (arith, n_is)) (omega (arith, b_is)) (λ s low high. all s (omega (arith, low)) high)

  -- up to a second that may lie behind the range
  pub skip_to : (a b to : ℕ) → a ≤ b → ((x y : ℕ) → f x 0 ≡ f y 0) → ((s : ℕ) → a ≤ s → s < b → s < to → P s) → f a (to - a) ≡ f b (to - b)
  skip_to a b to le ends all = elim (cases_lt b to) [
    | inl early ↦ skip a (b - a) (to - a) (to - b) b (omega (arith, le, early)) (omega (arith, le)) (λ s low high. all s low high (omega (arith, high, early)))
    | inr late ↦ elim (cases_lt a to) [
      | inl some ↦
          skip a (to - a) (to - a) 0 to (omega arith) (omega (arith, some)) (λ s low high. all s low (omega (arith, high, late)) high)
          ∙ ends to b ∙ (let none : 0 ≡ to - b = omega (arith, late) in ap (λ x. f b x) none)
      | inr none ↦
          (let e : to - a ≡ 0 = omega (arith, none) in ap (λ x. f a x) e) ∙ ends a b ∙ (let e : 0 ≡ to - b = omega (arith, late) in ap (λ x. f b x) e)
    ]
  ]

-- ---- stretches

stretches_drop : (p : ℕ → Bool) (a n : ℕ) → p a ≡ false → stretches p a (suc n) ≡ stretches p (suc a) n
stretches_drop p a n is = ap (λ b. cond b (with_second a (stretches p (suc a) n)) (stretches p (suc a) n)) is

pub stretches_skip : (p : ℕ → Bool) (a b to : ℕ) → a ≤ b → ((s : ℕ) → a ≤ s → s < b → s < to → p s ≡ false) → stretches p a (to - a) ≡ stretches p b (to - b)
stretches_skip p a b to le all = skip_to (stretches p) (λ s. p s ≡ false) (stretches_drop p) a b to le (λ x y. refl) all

-- the first stretch begins at a second or after it
abbrev FirstFrom : ℕ → List Stretch → Type 0
FirstFrom a [] = Unit {0}
FirstFrom a (t ∷ ts) = a ≤ t.0

first_less : (a b : ℕ) (ts : List Stretch) → a ≤ b → FirstFrom b ts → FirstFrom a ts
first_less a b [] le from = tt
first_less a b (t ∷ ts) le from = omega (arith, le, from)

first_second : (a : ℕ) (ts : List Stretch) → FirstFrom a (with_second a ts)
first_second a [] = omega arith
first_second a (t ∷ ts) = by_case (t.0 == suc a)
  where
    by_case : (b : Bool) → FirstFrom a (cond b ((a, t.1) ∷ ts) ((a, suc a) ∷ t ∷ ts))
    by_case true = omega arith
    by_case false = omega arith

first_from : (p : ℕ → Bool) (a n : ℕ) → FirstFrom a (stretches p a n)
first_from p a zero = tt
first_from p a (suc n) = by_case (p a) (first_from p (suc a) n)
  where
    by_case : (b : Bool) → FirstFrom (suc a) (stretches p (suc a) n) → FirstFrom a (cond b (with_second a (stretches p (suc a) n)) (stretches p (suc a) n))
    by_case true rest = first_second a (stretches p (suc a) n)
    by_case false rest = first_less a (suc a) (stretches p (suc a) n) (omega arith) rest

alone : (a : ℕ) (ts : List Stretch) → FirstFrom (suc (suc a)) ts → with_second a ts ≡ (a, suc a) ∷ ts
alone a [] from = refl
alone a (t ∷ ts) from = ap (λ b. cond b ((a, t.1) ∷ ts) ((a, suc a) ∷ t ∷ ts)) (apart t.0 a from)
  where
    apart : (x a : ℕ) → suc (suc a) ≤ x → (x == suc a) ≡ false
    apart x a le = grind (arith, nat_tests)

-- a stretch ends where the range does, or before a second without the property
EndsThere : (ℕ → Bool) → ℕ → ℕ → Type 0
EndsThere p b m = (m ≡ 0) ⊎ (p b ≡ false)

first_behind : (p : ℕ → Bool) (b m : ℕ) → (m ≡ 0) ⊎ (p b ≡ false) → FirstFrom (suc b) (stretches p b m)
first_behind p b zero ends = tt
first_behind p b (suc m) (inl none) = absurd (omega (arith, none))
first_behind p b (suc m) (inr is) = subst (FirstFrom (suc b)) (sym (stretches_drop p b m is)) (first_from p (suc b) m)

equal : (a : ℕ) → (suc a == suc a) ≡ true
equal a = grind (arith, nat_tests)

block : (p : ℕ → Bool) (a k n m b : ℕ) → n ≡ suc k + m → b ≡ suc a + k → ((s : ℕ) → a ≤ s → s < b → p s ≡ true) → (m ≡ 0) ⊎ (p b ≡ false) → stretches p a n ≡ (a, b) ∷ stretches p b m
block p a k zero m b n_is b_is all ends = absurd (omega (arith, n_is))
block p a zero (suc n) m b n_is b_is all ends =
    let same : n ≡ m = omega (arith, n_is) in
    let next : suc a ≡ b = omega (arith, b_is) in
    ap (λ t. cond t (with_second a (stretches p (suc a) n)) (stretches p (suc a) n)) (all a (omega arith) (omega (arith, b_is)))
    ∙ ap (λ x. with_second a (stretches p (suc a) x)) same
    ∙ ap (λ x. with_second a (stretches p x m)) next
    ∙ alone a (stretches p b m) (subst (λ x. FirstFrom (suc x) (stretches p b m)) (sym next) (first_behind p b m ends))
    ∙ ap (λ x. (a, x) ∷ stretches p b m) next
block p a (suc k) (suc n) m b n_is b_is all ends =
    ap (λ t. cond t (with_second a (stretches p (suc a) n)) (stretches p (suc a) n)) (all a (omega arith) (omega (arith, b_is)))
    ∙ ap (with_second a) (block p (suc a) k n m b (omega (arith, n_is)) (omega (arith, b_is)) (λ s low high. all s (omega (arith, low)) high) ends)
    ∙ ap (λ t. cond t ((a, b) ∷ stretches p b m) ((a, suc a) ∷ (suc a, b) ∷ stretches p b m)) (equal a)

pub stretches_block : (p : ℕ → Bool) (a b to : ℕ) → a < b → b ≤ to → ((s : ℕ) → a ≤ s → s < b → p s ≡ true) → (to - b ≡ 0) ⊎ (p b ≡ false) → stretches p a (to - a) ≡ (a, b) ∷ stretches p b (to - b)
stretches_block p a b to lt le all ends = block p a (b - suc a) (to - a) (to - b) b (omega (arith, lt, le)) (omega (arith, lt)) all ends

-- ---- days

begins_drop : (p : ℕ → Bool) (e : ℕ → ℕ) (u a n : ℕ) → (p a && nat_le u a) ≡ false → begins p e u a (suc n) ≡ begins p e u (suc a) n
begins_drop p e u a n is = ap (λ b. cond b (a ∷ begins p e (e a) (suc a) n) (begins p e u (suc a) n)) is

pub begins_skip : (p : ℕ → Bool) (e : ℕ → ℕ) (u a b to : ℕ) → a ≤ b → ((s : ℕ) → a ≤ s → s < b → s < to → (p s && nat_le u s) ≡ false) → begins p e u a (to - a) ≡ begins p e u b (to - b)
begins_skip p e u a b to le all = skip_to (begins p e u) (λ s. (p s && nat_le u s) ≡ false) (begins_drop p e u) a b to le (λ x y. refl) all

-- it does not matter where a day ended that ended before
pub begins_past : (p : ℕ → Bool) (e : ℕ → ℕ) (u v a n : ℕ) → u ≤ a → v ≤ a → begins p e u a n ≡ begins p e v a n
begins_past p e u v a zero le le' = refl
begins_past p e u v a (suc n) le le' =
    ap (λ b. cond (p a && b) (a ∷ begins p e (e a) (suc a) n) (begins p e u (suc a) n)) (le-leb u a le ∙ sym (le-leb v a le'))
    ∙ ap (λ l. cond (p a && nat_le v a) (a ∷ begins p e (e a) (suc a) n) l) (begins_past p e u v (suc a) n (omega (arith, le)) (omega (arith, le')))

and_false : (b c : Bool) → b ≡ false → (b && c) ≡ false
and_false true c is = absurd (cc)
and_false false c is = refl

and_last : (b c : Bool) → c ≡ false → (b && c) ≡ false
and_last true c is = is
and_last false c is = refl

pub none_begins : (p : ℕ → Bool) (e : ℕ → ℕ) (u a to : ℕ) → ((s : ℕ) → a ≤ s → s < to → p s ≡ false) → begins p e u a (to - a) ≡ []
none_begins p e u a to none = elim (cases_lt a to) [
  | inl some ↦ begins_skip p e u a to to (omega (arith, some)) (λ s low high lt. and_false (p s) (nat_le u s) (none s low lt)) ∙ (let e0 : to - to ≡ 0 = omega arith in ap (λ x. begins p e u to x) e0)
  | inr late ↦ let e0 : to - a ≡ 0 = omega (arith, late) in ap (λ x. begins p e u a x) e0
]

-- a day begins at the first second with the property, and the next one not before its end
pub one_begins : (p : ℕ → Bool) (e : ℕ → ℕ) (a t to : ℕ) → a ≤ t → t < to → t < e t → ((s : ℕ) → a ≤ s → s < t → p s ≡ false) → p t ≡ true
    → begins p e a a (to - a) ≡ t ∷ begins p e (min (e t) to) (min (e t) to) (to - min (e t) to)
one_begins p e a t to le lt behind none is =
    begins_skip p e a a t to le (λ s low high early. and_false (p s) (nat_le a s) (none s low high))
    ∙ (let some : to - t ≡ suc (to - suc t) = omega (arith, lt) in ap (λ x. begins p e a t x) some)
    ∙ ap (λ b. cond (b && nat_le a t) (t ∷ begins p e (e t) (suc t) (to - suc t)) (begins p e a (suc t) (to - suc t))) is
    ∙ ap (λ b. cond b (t ∷ begins p e (e t) (suc t) (to - suc t)) (begins p e a (suc t) (to - suc t))) (le-leb a t le)
    ∙ ap (λ l. t ∷ l) (begins_skip p e (e t) (suc t) (min (e t) to) to (omega (arith, lt, behind)) (λ s low high early. and_last (p s) (nat_le (e t) s) (lt-leb (e t) s (omega (arith, high)))) ∙ at_end)
  where
    at_end : begins p e (e t) (min (e t) to) (to - min (e t) to) ≡ begins p e (min (e t) to) (min (e t) to) (to - min (e t) to)
    at_end = elim (cases_lt (e t) to) [
      | inl inside ↦ let same : e t ≡ min (e t) to = omega (arith, inside) in ap (λ x. begins p e x (min (e t) to) (to - min (e t) to)) same
      | inr past ↦ let none : to - min (e t) to ≡ 0 = omega (arith, past) in
          ap (λ x. begins p e (e t) (min (e t) to) x) none ∙ sym (ap (λ x. begins p e (min (e t) to) (min (e t) to) x) none)
    ]
