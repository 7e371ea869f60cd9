-- What the tests of a date and of a time of day tell.
use Rattle.std.proofs.Common.{◌≡◌, ℕ, ◌<◌, ◌≤◌, ℤ, ◌≤ℤ◌, IsTrue, Bool, true, false, arith, ◌&&◌, refl, nat_le, int_le}
use Rattle.std.proofs.lemmas.Int.{ints}
use Rattle.std.proofs.lemmas.Bool.Decides.{nat_tests}
use Rattle.std.specs.Int.{IsInRange}
use Rattle.jiff_core.specs.Calendar.{IsYear, IsCivilDate, days_in_month}
use Rattle.tw_time.specs.Calendar.{is_date, is_time}

pub front : (a b : Bool) → IsTrue (a && b) → IsTrue a
front true b ok = refl
front false b ok = ok

pub back : (a b : Bool) → IsTrue (a && b) → IsTrue b
back true b ok = ok
back false b ok = absurd (cc)

pub both : (a b : Bool) → IsTrue a → IsTrue b → IsTrue (a && b)
both true b p q = q
both false b p q = absurd (cc)

pub at_most : (a b : ℕ) → IsTrue (nat_le a b) → a ≤ b
at_most a b ok = grind (arith, nat_tests)

is_at_most : (a b : ℕ) → a ≤ b → IsTrue (nat_le a b)
is_at_most a b ok = grind (arith, nat_tests)

int_at_most : (a b : ℤ) → IsTrue (int_le a b) → a ≤ℤ b
int_at_most a b ok = grind (arith, ints)

is_int_at_most : (a b : ℤ) → a ≤ℤ b → IsTrue (int_le a b)
is_int_at_most a b ok = grind (arith, ints)

pub year_of_test : (y : ℤ) (m d : ℕ) → IsTrue (is_date y m d) → IsYear y
year_of_test y m d ok =
    let years = front _ _ (front _ _ (front _ _ (front _ _ ok))) in
    (int_at_most _ _ (front _ _ years), int_at_most _ _ (back _ _ years))

pub month_of_test : (y : ℤ) (m d : ℕ) → IsTrue (is_date y m d) → IsInRange 1 12 m
month_of_test y m d ok =
    let months = front _ _ (front _ _ ok) in
    (at_most _ _ (back _ _ (front _ _ months)), at_most _ _ (back _ _ months))

pub day_of_test : (y : ℤ) (m d : ℕ) → IsTrue (is_date y m d) → IsInRange 1 (days_in_month y m) d
day_of_test y m d ok = (at_most _ _ (back _ _ (front _ _ ok)), at_most _ _ (back _ _ ok))

pub test_of_date : (y : ℤ) (m d : ℕ) → IsCivilDate y m d → is_date y m d ≡ true
test_of_date y m d is =
    let years = both _ _ (is_int_at_most _ _ is.0.0) (is_int_at_most _ _ is.0.1) in
    let months = both _ _ (both _ _ years (is_at_most _ _ is.1.0)) (is_at_most _ _ is.1.1) in
    both _ _ (both _ _ months (is_at_most _ _ is.2.0)) (is_at_most _ _ is.2.1)

pub hour_of_test : (h m s : ℕ) → IsTrue (is_time h m s) → h < 24
hour_of_test h m s ok = grind (arith, nat_tests)

pub minute_of_test : (h m s : ℕ) → IsTrue (is_time h m s) → m < 60
minute_of_test h m s ok = grind (arith, nat_tests)

pub second_of_test : (h m s : ℕ) → IsTrue (is_time h m s) → s < 60
second_of_test h m s ok = grind (arith, nat_tests)

pub test_of_time : (h m s : ℕ) → h < 24 → m < 60 → s < 60 → is_time h m s ≡ true
test_of_time h m s a b c = grind (arith, nat_tests)

pub small_zero : 0 < 1_000_000_000
small_zero = omega arith
