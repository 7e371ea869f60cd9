-- A text that is taken as a moment's is printed again for it.
use Rattle.std.proofs.Common.{◌≡◌, ℕ, ℤ, pos, ◌*ℤ◌, ◌≤ℤ◌, IsTrue, Bool, true, false, List, Option, Some, None, option_and_then, Result, Ok, Err, if◌then◌else◌, codes, refl, ap, sym, ◌∙◌, arith, unsigned_abs, int_div, int_le, int_lt, ◌&&◌}
use Rattle.std.specs.Option.{ok_or}
use Rattle.std.specs.Result.{result_ok}
use Rattle.std.proofs.lemmas.Int.{ints}
use Rattle.jiff_core.proofs.DateTimeLemmas.{civil_nanos-parts}
use Rattle.jiff_core.proofs.SignedLemmas.{signed_arith}
use Rattle.jiff.specs.Types.{Date, Time, DateTime, UTC}
use Rattle.jiff.specs.Words.{civil_nanos, picked_instant}
use Rattle.jiff.proofs.ZoneFacts.{offset_at-UTC, picked_instant-UTC}
use Rattle.tw_time.specs.declared.error.DateError.{DateError}
use Rattle.tw_time.specs.declared.error.DateError.TheVariants.{Unknown, OutOfRange}
use Rattle.tw_time.specs.declared.form.Parts.{Parts}
use Rattle.tw_time.specs.CalendarFacts.{front}
use Rattle.tw_time.specs.Calendar.{is_date, is_time}
use Rattle.tw_time.specs.Civil.{limit, nanos, where_true, date_of, time_of, second_in_range, second_at, Shows}
use Rattle.tw_time.specs.Forms.{filled, printed}
use Rattle.tw_time.specs.Placed.{◌>>=◌, at_civil}
use Rattle.tw_time.specs.Basic.{basic_moment, parts_of, IsPrintedAgain}
use Rattle.tw_time.specs.Extended.{civil_second}
use Rattle.tw_time.proofs.UtcFacts.{pos_abs}
use Rattle.tw_time.proofs.ShownFacts.{Shows-nanos, date_shown, time_shown}
use Rattle.tw_time.proofs.BasicFacts.{utc_parts_is, basic_is}
use Rattle.tw_time.proofs.ReadFacts.{printed-basic}

ok_tells : (r : Result ℕ DateError) (at : ℕ) → result_ok r ≡ Some at → r ≡ Ok at
ok_tells (Ok n) at e = cc
ok_tells (Err x) at e = absurd (cc)

ok_or_tells : (o : Option ℕ) (x : DateError) (at : ℕ) → ok_or o x ≡ Ok at → o ≡ Some at
ok_or_tells (Some n) x at e = cc
ok_or_tells None x at e = absurd (cc)

-- the numbers of a text that is taken
record Taken (o : Option Parts) (f : Parts → Result ℕ DateError) (at : ℕ) : Type 0 where
  pub p : Parts
  pub is : o ≡ Some p
  pub placed : f p ≡ Ok at

taken : (o : Option Parts) (f : Parts → Result ℕ DateError) (at : ℕ) → option_and_then (λ (p : Parts). result_ok (f p)) o ≡ Some at → Taken o f at
taken None f at e = absurd (cc)
taken (Some p) f at e = record { p = p; is = refl; placed = ok_tells (f p) at e }

-- the date and the time at which they are
record Dated (d : Option Date) (t : Option Time) (f : Date → Time → Option ℕ) (at : ℕ) : Type 0 where
  pub date : Date
  pub time : Time
  pub day : d ≡ Some date
  pub clock : t ≡ Some time
  pub second : f date time ≡ Some at

dated : (d : Option Date) (t : Option Time) (f : Date → Time → Option ℕ) (at : ℕ)
    → (ok_or d Unknown >>= (λ date. ok_or t Unknown >>= (λ time. ok_or (f date time) OutOfRange))) ≡ Ok at → Dated d t f at
dated None t f at e = absurd (cc)
dated (Some date) None f at e = absurd (cc)
dated (Some date) (Some time) f at e =
    record { date = date; time = time; day = refl; clock = refl; second = ok_or_tells (f date time) OutOfRange at e }

dated_of_parts : (p : Parts) (at : ℕ) → at_civil p UTC ≡ Ok at → Dated (date_of (pos p.year) p.month p.day) (time_of p.hour p.minute p.second) (second_at UTC) at
unfolding at_civil
dated_of_parts p at e = dated (date_of (pos p.year) p.month p.day) (time_of p.hour p.minute p.second) (second_at UTC) at e

where_true_tells : {A : Type 0} (b : Bool) (f : IsTrue b → A) (x : A) → where_true b f ≡ Some x → (ok : IsTrue b) × (f ok ≡ x)
where_true_tells true f x e = (refl, cc)
where_true_tells false f x e = absurd (cc)

date_of_tells : (y : ℤ) (m d : ℕ) (date : Date) → date_of y m d ≡ Some date → (y ≡ date.year) × (m ≡ date.month) × (d ≡ date.day)
unfolding date_of
date_of_tells y m d date e =
    let same = where_true_tells (is_date y m d) _ date e in
    (ap (λ x. x.year) same.1, ap (λ x. x.month) same.1, ap (λ x. x.day) same.1)

pub time_of_tells : (h m s : ℕ) (time : Time) → time_of h m s ≡ Some time → (h ≡ time.hour) × (m ≡ time.minute) × (s ≡ time.second) × (0 ≡ time.subsec_nanosecond)
unfolding time_of
time_of_tells h m s time e =
    let same = where_true_tells (is_time h m s) _ time e in
    (ap (λ x. x.hour) same.1, ap (λ x. x.minute) same.1, ap (λ x. x.second) same.1, ap (λ x. x.subsec_nanosecond) same.1)

kept_some : (b : Bool) (n at : ℕ) → (if b then Some n else None) ≡ Some at → (b ≡ true) × (n ≡ at)
kept_some true n at e = (refl, cc)
kept_some false n at e = absurd (cc)

int_le_says : (a b : ℤ) → int_le a b ≡ true → a ≤ℤ b
int_le_says a b h = grind (arith, ints)

pub second_in_range_tells : (n : ℤ) (at : ℕ) → second_in_range n ≡ Some at → (pos 0 ≤ℤ n) × (unsigned_abs (int_div n (pos 1_000_000_000)) ≡ at)
second_in_range_tells n at e =
    let k = kept_some (int_le (pos 0) n && int_lt n (nanos limit)) (unsigned_abs (int_div n (pos 1_000_000_000))) at e in
    (int_le_says (pos 0) n (front (int_le (pos 0) n) (int_lt n (nanos limit)) k.0), k.1)

Shows-second : (at : ℕ) (dt : DateTime) → 0 ≡ dt.time.subsec_nanosecond → second_at UTC dt.date dt.time ≡ Some at → Shows UTC at dt
Shows-second at dt whole e =
    let n : ℤ = picked_instant UTC dt in
    let k = second_in_range_tells n at e in
    let picked : n ≡ civil_nanos dt = picked_instant-UTC dt ∙ omega (arith, signed_arith) in
    let s : ℤ = civil_second dt.date dt.time in
    let counted : n ≡ s *ℤ pos 1_000_000_000 = picked ∙ omega (arith, signed_arith, civil_nanos-parts dt, whole) in
    let low : pos 0 ≤ℤ s = omega (arith, signed_arith, counted, k.0) in
    let divided : int_div n (pos 1_000_000_000) ≡ pos (unsigned_abs s) = omega (arith, signed_arith, counted, k.0, pos_abs s low) in
    let second : unsigned_abs s ≡ at = ap unsigned_abs (sym divided) ∙ k.1 in
    let none = offset_at-UTC (nanos at) in
    let is : civil_nanos dt ≡ nanos at = omega (arith, signed_arith, picked, counted, pos_abs s low, second) in
    Shows-nanos UTC at dt (is ∙ omega (arith, signed_arith, none))

pub printed_again : (text : List ℕ) (at : ℕ) → IsPrintedAgain text at
unfolding basic_moment
printed_again text at e =
    let t = taken (filled (codes "YYYYMMDDThhmmssZ") text) (λ (p : Parts). at_civil p UTC) at e in
    let d = dated_of_parts t.p at t.placed in
    let date = date_of_tells (pos t.p.year) t.p.month t.p.day d.date d.day in
    let time = time_of_tells t.p.hour t.p.minute t.p.second d.time d.clock in
    let dt : DateTime = record { date = d.date; time = d.time } in
    let shows : Shows UTC at dt = Shows-second at dt time.3 d.second in
    let year : t.p.year ≡ unsigned_abs d.date.year = ap unsigned_abs date.0 in
    let same : t.p ≡ parts_of d.date d.time = λ i. record {
      year = year i;
      month = date.1 i;
      day = date.2 i;
      hour = time.0 i;
      minute = time.1 i;
      second = time.2 i;
    } in
    let parts = utc_parts_is at d.date d.time (date_shown UTC at dt shows) (time_shown UTC at dt shows) in
    printed-basic text t.p t.is ∙ ap (printed (codes "YYYYMMDDThhmmssZ")) same ∙ sym (basic_is at (parts_of d.date d.time) parts)
