-- Seconds that are counted.
use Rattle.std.specs.Prelude.{max, min, nat_lt, nat_le}
use Rattle.std.proofs.Common.{◌≡◌, inl, inr, ℕ, zero, suc, ◌+◌, ◌-◌, ◌<◌, ◌≤◌, Bool, true, false, ◌&&◌, refl, ap, ◌∙◌, arith}
use Rattle.std.proofs.lemmas.Bool.{cases_lt, lt-leb, le-leb, lt-ltb, le-ltb}
use Rattle.timew_report.specs.Time.{one_if, count}

-- the seconds are among so many from one on
pub count_same : (p q : ℕ → Bool) (a n : ℕ) → ((s : ℕ) → a ≤ s → s < a + n → p s ≡ q s) → count p a n ≡ count q a n
count_same p q a zero same = refl
count_same p q a (suc n) same = rw (same a (omega arith) (omega arith), count_same p q (suc a) n (λ s low high. same s (omega (arith, low)) (omega (arith, high)))) refl

pub count_none : (a n : ℕ) → count (λ s. false) a n ≡ 0
count_none a zero = refl
count_none a (suc n) = let rest : count (λ s. false) (suc a) n ≡ 0 = count_none (suc a) n in omega (arith, rest)

pub count_either : (p q r : ℕ → Bool) (a n : ℕ) → ((s : ℕ) → a ≤ s → s < a + n → one_if (p s) ≡ one_if (q s) + one_if (r s)) → count p a n ≡ count q a n + count r a n
count_either p q r a zero either = refl
count_either p q r a (suc n) either =
    let here : one_if (p a) ≡ one_if (q a) + one_if (r a) = either a (omega arith) (omega arith) in
    let rest : count p (suc a) n ≡ count q (suc a) n + count r (suc a) n = count_either p q r (suc a) n (λ s low high. either s (omega (arith, low)) (omega (arith, high))) in
    omega (arith, here, rest)

pub count_all : (a n : ℕ) → count (λ s. true) a n ≡ n
count_all a zero = refl
count_all a (suc n) = let rest : count (λ s. true) (suc a) n ≡ n = count_all (suc a) n in omega (arith, rest)

in_span : (lo hi a n : ℕ) → one_if (nat_le lo a && nat_lt a hi) + (min hi (suc a + n) - max lo (suc a)) ≡ min hi (a + suc n) - max lo a
in_span lo hi a n = elim (cases_lt a lo) [
  | inl low ↦ rw (lt-leb lo a low) (omega (arith, low))
  | inr from ↦ elim (cases_lt a hi) [
    | inl to ↦ rw (le-leb lo a from, lt-ltb a hi to) (omega (arith, from, to))
    | inr high ↦ rw (le-leb lo a from, le-ltb a hi high) (omega (arith, from, high))
  ]
]

-- the seconds of a stretch in a range
pub count_span : (lo hi a n : ℕ) → count (λ s. nat_le lo s && nat_lt s hi) a n ≡ min hi (a + n) - max lo a
count_span lo hi a zero = omega arith
count_span lo hi a (suc n) = ap (λ k. one_if (nat_le lo a && nat_lt a hi) + k) (count_span lo hi (suc a) n) ∙ in_span lo hi a n
