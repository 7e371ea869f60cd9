-- Numbers that are looked for among those of a command.
use Rattle.std.specs.Prelude.{is_ok, ◌==◌}
use Rattle.std.specs.List.Sorted.{IsBinarySearchResult, IsNonDecreasing}
use Rattle.std.specs.Ordering.{nat_cmp}
use Rattle.std.proofs.Common.{◌≡◌, ℕ, ◌+◌, ◌-◌, ◌<◌, ◌≤◌, true, false, List, length, get_or, Result, Ok, Err, sym, subst, ⊎_elim, arith}
use Rattle.std.proofs.lemmas.Bool.{cases_eq, cases_lt}
use Rattle.std.proofs.lemmas.Bool.Decides.{nat_tests}
use Rattle.std.proofs.lemmas.List.{get_or_default}
use Rattle.std.proofs.lemmas.List.Folds.{list_any_at, list_any_none}
use Rattle.std.proofs.lemmas.List.Sorted.{searched}
use Rattle.timew_cmd.specs.Numbers.{is_among, NoneAmong}

is_same : (a b : ℕ) → a ≡ b → (a == b) ≡ true
is_same a b same = grind (arith, nat_tests)

is_other : (a b : ℕ) → (a ≡ b → ⊥) → (a == b) ≡ false
is_other a b other = grind (arith, nat_tests)

-- a search by halving finds a number if it is there
pub is_found : (ids : List ℕ) (id : ℕ) (r : Result ℕ ℕ) → IsNonDecreasing ids → IsBinarySearchResult (λ y. nat_cmp y id) ids r → is_ok r ≡ is_among ids id
is_found ids id (Ok i) rises is =
    let at = searched ids id (Ok i) is (λ j k le lt. rises j k 0 le lt) in
    sym (list_any_at (λ n. n == id) ids i 0 at.0 (is_same (get_or ids i 0) id at.1))
is_found ids id (Err i) rises is =
    let at = searched ids id (Err i) is (λ j k le lt. rises j k 0 le lt) in
    sym (list_any_none (λ n. n == id) ids (λ k d lt. is_other (get_or ids k d) id (other at.1 at.2 k d lt)))
  where
    other : ((k : ℕ) → k < i → get_or ids k 0 < id) → ((k : ℕ) → i ≤ k → k < length ids → id < get_or ids k 0) → (k d : ℕ) → k < length ids → get_or ids k d ≡ id → ⊥
    other below above k d lt same =
        ⊎_elim (λ less. omega (arith, below k less, get_or_default ids k d 0 lt, same)) (λ more. omega (arith, above k more lt, get_or_default ids k d 0 lt, same)) (cases_lt k i)

-- ---- one row more that has none of them

pub none_in_front : (ids : List ℕ) (count k : ℕ) → NoneAmong ids (count - k) count → is_among ids (count - k) ≡ false → NoneAmong ids (count - (k + 1)) count
none_in_front ids count k others here = λ n low high. ⊎_elim (λ same. subst (λ (m : ℕ). is_among ids m ≡ false) (sym same) here) (λ other. others n (omega (arith, other)) high) (cases_eq n (count - k))

pub none_behind : (ids : List ℕ) (k : ℕ) → NoneAmong ids 0 k → is_among ids (k + 1) ≡ false → NoneAmong ids 0 (k + 1)
none_behind ids k others here = λ n low high. ⊎_elim (λ same. subst (λ (m : ℕ). is_among ids m ≡ false) (sym same) here) (λ other. others n low (omega (arith, other))) (cases_eq n (k + 1))
