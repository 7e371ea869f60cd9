-- What UTC's clock shows at a second is that second.
use Rattle.std.proofs.Common.{◌≡◌, ℕ, ◌/◌, ◌%◌, ◌<◌, ℤ, pos, negsuc, ◌+ℤ◌, ◌*ℤ◌, ◌≤ℤ◌, Some, Ok, arith, refl, sym, ap, ◌∙◌, unsigned_abs, int_div}
use Rattle.std.specs.Int.{int_rem_euclid}
use Rattle.jiff_core.proofs.DateTimeLemmas.{civil_nanos-parts}
use Rattle.jiff_core.proofs.CalendarLemmas.{days_in_month_bounds}
use Rattle.jiff_core.proofs.SignedLemmas.{signed_arith}
use Rattle.jiff.specs.Types.{Date, Time, DateTime, UTC}
use Rattle.jiff_core.specs.Time.{time_seconds}
use Rattle.jiff.specs.Words.{picked_instant, epoch_day}
use Rattle.jiff.proofs.ZoneFacts.{offset_at-UTC, picked_instant-UTC}
use Rattle.tw_time.specs.Civil.{limit, nanos, Shows, shown_seconds, date_of, second_at}
use Rattle.tw_time.specs.Forms.{IsPrintable}
use Rattle.tw_time.specs.Placed.{at_civil}
use Rattle.tw_time.specs.Basic.{parts_of}
use Rattle.tw_time.specs.Extended.{civil_second, second_of_parts}
use Rattle.tw_time.proofs.CivilFacts.{date_of-date, time_of-time, second_in_range_is}
use Rattle.tw_time.proofs.ShownFacts.{by_seconds}

pub pos_abs : (z : ℤ) → pos 0 ≤ℤ z → pos (unsigned_abs z) ≡ z
pos_abs (pos n) h = refl
pos_abs (negsuc n) h = absurd (omega (arith, signed_arith))

-- a day number and a second of the day are what UTC's clock shows
pub shows_in_utc : (at : ℕ) (dt : DateTime) → epoch_day dt.date ≡ pos (at / 86_400) → time_seconds dt.time ≡ at % 86_400 → dt.time.subsec_nanosecond ≡ 0 → Shows UTC at dt
shows_in_utc at dt day second whole =
    let below : at % 86_400 < 86_400 = omega arith in
    let seconds : shown_seconds UTC at ≡ pos (at / 86_400) *ℤ pos 86_400 +ℤ pos (at % 86_400) = omega (arith, signed_arith, offset_at-UTC (nanos at)) in
    let parts = by_seconds (shown_seconds UTC at) (pos (at / 86_400)) (at % 86_400) below seconds in
    record { day = parts.0 ∙ sym day; second = ap unsigned_abs parts.1 ∙ sym second; whole = whole }

date_back : (d : Date) → pos 1969 ≤ℤ d.year → date_of (pos (unsigned_abs d.year)) d.month d.day ≡ Some d
date_back d late =
    ap (λ y. date_of y d.month d.day) (pos_abs d.year (omega (arith, signed_arith))) ∙ date_of-date d

pub civil_second-shown : (at : ℕ) (dt : DateTime) → Shows UTC at dt → civil_second dt.date dt.time ≡ pos at
civil_second-shown at dt s =
    let none = offset_at-UTC (nanos at) in
    let rest = pos_abs (int_rem_euclid (shown_seconds UTC at) (pos 86_400)) (omega (arith, signed_arith)) in
    omega (arith, signed_arith, none, rest, s.day, s.second)

pub second_of_parts-shown : (at : ℕ) (dt : DateTime) → Shows UTC at dt → pos 1969 ≤ℤ dt.date.year → second_of_parts (parts_of dt.date dt.time) ≡ Some (pos at)
unfolding second_of_parts
second_of_parts-shown at dt s late =
    rw (date_back dt.date late, time_of-time dt.time s.whole) (ap (λ z. Some z) (civil_second-shown at dt s))

second_at-shown : (at : ℕ) (dt : DateTime) → at < limit → Shows UTC at dt → second_at UTC dt.date dt.time ≡ Some at
second_at-shown at dt below s =
    let second = civil_second-shown at dt s in
    let n : ℤ = picked_instant UTC dt in
    let is : n ≡ nanos at = picked_instant-UTC dt ∙ omega (arith, signed_arith, civil_nanos-parts dt, second, s.whole) in
    let whole : int_div n (pos 1_000_000_000) ≡ pos at = omega (arith, signed_arith, is) in
    second_in_range_is n (omega (arith, signed_arith, is)) (omega (arith, signed_arith, is, below)) ∙ ap (λ z. Some (unsigned_abs z)) whole

pub at_civil-shown : (at : ℕ) (dt : DateTime) → at < limit → Shows UTC at dt → pos 1969 ≤ℤ dt.date.year → at_civil (parts_of dt.date dt.time) UTC ≡ Ok at
unfolding at_civil
at_civil-shown at dt below s late =
    rw (date_back dt.date late, time_of-time dt.time s.whole, second_at-shown at dt below s) refl

pub parts_of-printable : (d : Date) (t : Time) → pos 1969 ≤ℤ d.year → IsPrintable (parts_of d t)
parts_of-printable d t late = record {
  year = omega (arith, signed_arith, d.year_in, pos_abs d.year (omega (arith, signed_arith)));
  month = omega (arith, d.month_in);
  day = omega (arith, d.day_in, days_in_month_bounds d.year d.month);
  hour = omega (arith, t.hour_in);
  minute = omega (arith, t.minute_in);
  second = omega (arith, t.second_in);
}
