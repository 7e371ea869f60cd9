-- Fewer of a length end no later than more of it, but for what a zone's clock can be put forward.
use Rattle.std.proofs.Common.{◌≡◌, ℕ, zero, suc, ◌+◌, ◌*◌, ◌==◌, ◌/◌, ◌%◌, ◌≤◌, ◌<◌, ℤ, pos, negsuc, ◌+ℤ◌, ◌*ℤ◌, ◌≤ℤ◌, ◌<ℤ◌, Bool, true, false, ◌&&◌, ◌⊎◌, inl, inr, Option, Some, None, option_and_then, if◌then◌else◌, refl, sym, ap, subst, ◌∙◌, arith, rules, unsigned_abs, int_div, nat_lt}
use Rattle.std.proofs.lemmas.Int.{by_lt_z, ints}
use Rattle.std.proofs.lemmas.Bool.{lt-ltb}
use Rattle.jiff_core.specs.Calendar.{IsEpochDay, days_in_month, days_from_civil}
use Rattle.jiff_core.specs.Time.{time_seconds, time_nanos}
use Rattle.jiff_core.proofs.CalendarLemmas.{days_in_month_bounds}
use Rattle.jiff_core.proofs.DateLemmas.{civil, epoch_day_range, days_from_civil-day, days_from_civil-next_month, days_from_civil-next_year, days_from_civil-max}
use Rattle.jiff_core.proofs.DateTimeLemmas.{civil_nanos-parts}
use Rattle.jiff_core.proofs.SignedLemmas.{signed_arith}
use Rattle.jiff_span.specs.Months.{shifted_month, shifted_day}
use Rattle.jiff_span.proofs.MonthLemmas.{shifted_month_in, shifted_number, shifted_civil, days_from_civil-month, add_months-zero}
use Rattle.jiff.specs.Types.{Date, Time, DateTime, TimeZone}
use Rattle.jiff.specs.Words.{epoch_day, add_months, shifted_year, IsShiftable, civil_nanos, compatible_offset, ambiguous_at, picked_instant}
use Rattle.tw_time.specs.declared.length.Length.{Length}
use Rattle.tw_time.specs.Civil.{limit, nanos, date_on, second_at, shown_seconds, shown_day, shown_second, shown_date, shown_time}
use Rattle.tw_time.specs.Lengths.{moved_day, moved, below_limit, added, shift_of}
use Rattle.tw_time.proofs.CivilFacts.{date_on-date, date_on-day, second_in_range_is}
use Rattle.tw_time.proofs.DayFacts.{shiftable_by_day, offset_bound}
use Rattle.tw_time.proofs.TakenFacts.{time_of_tells, second_in_range_tells}

-- ---- dates

-- the date with a day number
record IsDateOn (day : ℤ) : Type 0 where
  pub date : Date
  pub is : epoch_day date ≡ day

day_or_last : (d last : ℕ) → d ≤ last → (d < last) ⊎ (d ≡ last)
day_or_last d last le = grind arith

-- the first of January after a last of December
next_year : (d : Date) → d.month ≡ 12 → d.day ≡ days_in_month d.year d.month → epoch_day d <ℤ pos 2_932_896 → IsDateOn (epoch_day d +ℤ pos 1)
next_year d december last early =
    let long : d.day ≡ 31 = last ∙ ap (days_in_month d.year) december in
    let shown : epoch_day d ≡ days_from_civil d.year 12 31 = λ i. days_from_civil d.year (december i) (long i) in
    by_lt_z d.year (pos 9999)
    (λ less. record {
      date = record { year = d.year +ℤ pos 1; month = 1; day = 1; year_in = (omega (arith, signed_arith, d.year_in), omega (arith, signed_arith, less)); month_in = search rules; day_in = (omega arith, omega (arith, days_in_month_bounds (d.year +ℤ pos 1) 1)) };
      is = days_from_civil-next_year d.year (d.year +ℤ pos 1) (omega (arith, signed_arith, d.year_in)) refl ∙ ap (λ z. z +ℤ pos 1) (sym shown);
    })
    (λ more.
    let end : d.year ≡ pos 9999 = omega (arith, signed_arith, d.year_in, more) in
    absurd (omega (arith, signed_arith, early, shown, ap (λ y. days_from_civil y 12 31) end, days_from_civil-max)))

-- the day after
next_day : (d : Date) → epoch_day d <ℤ pos 2_932_896 → IsDateOn (epoch_day d +ℤ pos 1)
next_day d early = elim (day_or_last d.day (days_in_month d.year d.month) d.day_in.1) [
  | inl less ↦ record {
    date = record { year = d.year; month = d.month; day = d.day + 1; year_in = d.year_in; month_in = d.month_in; day_in = (omega arith, omega (arith, less)) };
    is = omega (arith, signed_arith, days_from_civil-day d.year d.month d.day (d.day + 1) d.day_in.0 (omega arith));
  }
  | inr last ↦ elim (day_or_last d.month 12 d.month_in.1) [
    | inl less ↦ record {
      date = record { year = d.year; month = d.month + 1; day = 1; year_in = d.year_in; month_in = (omega arith, omega (arith, less)); day_in = (omega arith, omega (arith, days_in_month_bounds d.year (d.month + 1))) };
      is = days_from_civil-next_month d.year d.month d.day d.month_in.0 last;
    }
    | inr december ↦ next_year d december last early
  ]
]

days_on : (d : Date) (k : ℕ) → (epoch_day d +ℤ pos k) ≤ℤ pos 2_932_896 → IsDateOn (epoch_day d +ℤ pos k)
days_on d zero high = record { date = d; is = omega (arith, signed_arith) }
days_on d (suc k) high =
    let before = days_on d k (omega (arith, signed_arith, high)) in
    let next = next_day before.date (omega (arith, signed_arith, before.is, high)) in
    record { date = next.date; is = omega (arith, signed_arith, before.is, next.is) }

-- ---- months

shiftable_before : (d : Date) (k n : ℕ) → k ≤ n → IsShiftable d (pos n) → IsShiftable d (pos k)
shiftable_before d k n le s = (omega (arith, signed_arith, d.year_in, d.month_in), omega (arith, signed_arith, s.1, le))

months_on : (d : Date) (k : ℕ) → IsShiftable d (pos k) → IsDateOn (add_months d (pos k))
months_on d k s =
    let c = shifted_civil d (pos k) s in
    record { date = record { year = shifted_year d (pos k); month = shifted_month d (pos k); day = shifted_day d (pos k); year_in = c.0; month_in = c.1; day_in = c.2 }; is = refl }

month_at_least : (d : Date) (n : ℕ) → 1 ≤ shifted_day d (pos n)
month_at_least d n = let month = days_in_month_bounds (shifted_year d (pos n)) (shifted_month d (pos n)) in omega (arith, month.1, d.day_in.0)

months_later : (d : Date) (n : ℕ) → epoch_day d ≤ℤ add_months d (pos n)
months_later d zero = omega (arith, signed_arith, add_months-zero d)
months_later d (suc n) =
    let month = shifted_month_in d (pos (suc n)) in
    let less = days_from_civil-month d.year (shifted_year d (pos (suc n))) d.month (shifted_month d (pos (suc n))) d.day (shifted_day d (pos (suc n))) (civil d) month.0 month.1 (month_at_least d (suc n)) (omega (arith, signed_arith, shifted_number d (pos (suc n)))) in
    omega (arith, signed_arith, less)

months_rise : (d : Date) (k n : ℕ) → k ≤ n → IsShiftable d (pos n) → add_months d (pos k) ≤ℤ add_months d (pos n)
months_rise d k n le s = elim (day_or_last k n le) [
  | inl less ↦ (let month = shifted_month_in d (pos n) in
      let rises = days_from_civil-month (shifted_year d (pos k)) (shifted_year d (pos n)) (shifted_month d (pos k)) (shifted_month d (pos n)) (shifted_day d (pos k)) (shifted_day d (pos n)) (shifted_civil d (pos k) (shiftable_before d k n le s)) month.0 month.1 (month_at_least d n) (omega (arith, signed_arith, less, shifted_number d (pos k), shifted_number d (pos n))) in
      omega (arith, signed_arith, rises))
  | inr same ↦ (let here = ap (λ m. add_months d (pos m)) same in omega (arith, signed_arith, here))
]

-- ---- months and days

record IsBefore (d : Date) (months days : ℕ) (end : ℤ) : Type 0 where
  pub day : IsDateOn (moved_day d months days)
  pub late : epoch_day d ≤ℤ moved_day d months days
  pub early : moved_day d months days ≤ℤ end

days_before : (d : Date) (mk dk mn dn : ℕ) → mk ≤ mn → dk ≤ dn → IsEpochDay (moved_day d mn dn) → IsBefore d mk dk (moved_day d mn dn)
days_before d mk dk mn dn months days within =
    let low = months_later d mn in
    let shiftable : IsShiftable d (pos mn) = shiftable_by_day d mn (omega (arith, signed_arith, low, (epoch_day_range d).0), omega (arith, signed_arith, within.1)) in
    let rises = months_rise d mk mn months shiftable in
    let month = months_on d mk (shiftable_before d mk mn months shiftable) in
    let day = days_on month.date dk (omega (arith, signed_arith, month.is, rises, days, within.1)) in
    record {
      day = record { date = day.date; is = omega (arith, signed_arith, day.is, month.is) };
      late = omega (arith, signed_arith, months_later d mk);
      early = omega (arith, signed_arith, rises, days);
    }

-- ---- moments

-- the parts of a moment so many months and days later
record IsMoved (tz : TimeZone) (at months days b : ℕ) : Type 0 where
  pub date : Date
  pub time : Time
  pub to : Date
  pub on_day : shown_date tz at ≡ Some date
  pub on_clock : shown_time tz at ≡ Some time
  pub there : date_on (moved_day date months days) ≡ Some to
  pub second : second_at tz to time ≡ Some b

moved_tells : (tz : TimeZone) (at months days b : ℕ) → moved at months days tz ≡ Some b → IsMoved tz at months days b
unfolding moved
moved_tells tz at months days b e = of_date (shown_date tz at) refl e
  where
    of_to : (date : Date) (time : Time) (o : Option Date) → shown_date tz at ≡ Some date → shown_time tz at ≡ Some time → date_on (moved_day date months days) ≡ o
        → option_and_then (λ (to : Date). second_at tz to time) o ≡ Some b → IsMoved tz at months days b
    of_to date time None is_date is_time is_to e = absurd (cc)
    of_to date time (Some to) is_date is_time is_to e = record { date = date; time = time; to = to; on_day = is_date; on_clock = is_time; there = is_to; second = e }

    of_time : (date : Date) (t : Option Time) → shown_date tz at ≡ Some date → shown_time tz at ≡ t
        → option_and_then (λ (time : Time). option_and_then (λ (to : Date). second_at tz to time) (date_on (moved_day date months days))) t ≡ Some b → IsMoved tz at months days b
    of_time date None is_date is_time e = absurd (cc)
    of_time date (Some time) is_date is_time e = of_to date time (date_on (moved_day date months days)) is_date is_time refl e

    of_date : (d : Option Date) → shown_date tz at ≡ d
        → option_and_then (λ (date : Date). option_and_then (λ (time : Time). option_and_then (λ (to : Date). second_at tz to time) (date_on (moved_day date months days))) (shown_time tz at)) d ≡ Some b → IsMoved tz at months days b
    of_date None is_date e = absurd (cc)
    of_date (Some date) is_date e = of_time date (shown_time tz at) is_date refl e

moved_is : (tz : TimeZone) (at months days b : ℕ) → IsMoved tz at months days b → moved at months days tz ≡ Some b
unfolding moved
moved_is tz at months days b p =
    (λ i. option_and_then (λ (date : Date). option_and_then (λ (time : Time). option_and_then (λ (to : Date). second_at tz to time) (date_on (moved_day date months days))) (shown_time tz at)) (p.on_day i))
    ∙ (λ i. option_and_then (λ (time : Time). option_and_then (λ (to : Date). second_at tz to time) (date_on (moved_day p.date months days))) (p.on_clock i))
    ∙ ap (option_and_then (λ (to : Date). second_at tz to p.time)) p.there
    ∙ p.second

-- a datetime's instant is within the widest offset of what its numbers count
picked_within : (tz : TimeZone) (dt : DateTime) → (civil_nanos dt ≤ℤ (picked_instant tz dt +ℤ pos 93_599_000_000_000)) × (picked_instant tz dt ≤ℤ (civil_nanos dt +ℤ pos 93_599_000_000_000))
picked_within tz dt =
    let o = compatible_offset (ambiguous_at tz dt) in
    (omega (arith, signed_arith, o.in_range.0, o.in_range.1), omega (arith, signed_arith, o.in_range.0, o.in_range.1))

seconds_of_day : (s : ℕ) → s / 3600 * 3600 + s / 60 % 60 * 60 + s % 60 ≡ s
seconds_of_day s = omega arith

time_counts : (tz : TimeZone) (at : ℕ) (time : Time) → shown_time tz at ≡ Some time → time_nanos time ≡ shown_second tz at * 1_000_000_000
time_counts tz at time e =
    let t = time_of_tells (shown_second tz at / 3600) (shown_second tz at / 60 % 60) (shown_second tz at % 60) time e in
    let second : time_seconds time ≡ shown_second tz at = (λ i. sym t.0 i * 3600 + sym t.1 i * 60 + sym t.2 i) ∙ seconds_of_day (shown_second tz at) in
    omega (arith, second, t.3)

day_counts : (tz : TimeZone) (at : ℕ) → shown_seconds tz at ≡ shown_day tz at *ℤ pos 86_400 +ℤ pos (shown_second tz at)
day_counts tz at = omega (arith, signed_arith)

-- what the clock shows at a moment counts no less than the moment less the widest offset
shown_late : (tz : TimeZone) (at : ℕ) → pos at ≤ℤ (shown_day tz at *ℤ pos 86_400 +ℤ pos (shown_second tz at) +ℤ pos 93_599)
shown_late tz at =
    let offset = offset_bound tz (nanos at) in
    let is = day_counts tz at in
    omega (arith, signed_arith, offset.0, is)

not_negative : (at s : ℕ) (day from c p : ℤ) → 187_198 ≤ at → pos at ≤ℤ (from *ℤ pos 86_400 +ℤ pos s +ℤ pos 93_599) → from ≤ℤ day
    → c ≡ day *ℤ pos 86_400_000_000_000 +ℤ pos (s * 1_000_000_000) → c ≤ℤ (p +ℤ pos 93_599_000_000_000) → pos 0 ≤ℤ p
not_negative at s day from c p high shown later is near = omega (arith, signed_arith)

not_later : (day end c e p q : ℤ) (t : ℕ) → day ≤ℤ end → c ≡ day *ℤ pos 86_400_000_000_000 +ℤ pos t → e ≡ end *ℤ pos 86_400_000_000_000 +ℤ pos t
    → p ≤ℤ (c +ℤ pos 93_599_000_000_000) → e ≤ℤ (q +ℤ pos 93_599_000_000_000) → p ≤ℤ (q +ℤ pos 187_198_000_000_000)
not_later day end c e p q t le is_c is_e near_p near_q = omega (arith, signed_arith)

in_numbers : (m n b : ℕ) → m ≤ n + 187_198_000_000_000 → n / 1_000_000_000 ≡ b → b + 187_198 < 253_370_764_800 → (m < 253_370_764_800_000_000_000) × (m / 1_000_000_000 ≤ b + 187_198)
in_numbers m n b near is high = (omega arith, omega arith)

in_seconds : (p q : ℤ) (b : ℕ) → pos 0 ≤ℤ p → p ≤ℤ (q +ℤ pos 187_198_000_000_000) → pos 0 ≤ℤ q → unsigned_abs (int_div q (pos 1_000_000_000)) ≡ b → b + 187_198 < limit
    → (p <ℤ nanos limit) × (unsigned_abs (int_div p (pos 1_000_000_000)) ≤ b + 187_198)
in_seconds (pos m) (pos n) b low near low_q is high =
    let fits = in_numbers m n b (omega (arith, ints, near)) is high in
    (omega (arith, ints, fits.0), fits.1)
in_seconds (negsuc m) q b low near low_q is high = absurd (omega (arith, ints, low))
in_seconds (pos m) (negsuc n) b low near low_q is high = absurd (omega (arith, ints, low_q))

-- the moment of fewer of a length, beside that of more
pub record IsNear (o : Option ℕ) (late : ℕ) : Type 0 where
  pub at : ℕ
  pub is : o ≡ Some at
  pub near : at ≤ late

moved_before : (tz : TimeZone) (at mk dk mn dn b : ℕ) → mk ≤ mn → dk ≤ dn → 187_198 ≤ at → b + 187_198 < limit → moved at mn dn tz ≡ Some b → IsNear (moved at mk dk tz) (b + 187_198)
moved_before tz at mk dk mn dn b months days late high e =
    let p = moved_tells tz at mn dn b e in
    let there : epoch_day p.to ≡ moved_day p.date mn dn = date_on-day (moved_day p.date mn dn) p.to p.there in
    let before = days_before p.date mk dk mn dn months days (subst IsEpochDay there (epoch_day_range p.to)) in
    let from : epoch_day p.date ≡ shown_day tz at = date_on-day (shown_day tz at) p.date p.on_day in
    let start : shown_day tz at ≤ℤ epoch_day before.day.date = omega (arith, signed_arith, from, before.late, before.day.is) in
    let end : epoch_day before.day.date ≤ℤ epoch_day p.to = omega (arith, signed_arith, there, before.early, before.day.is) in
    let dt : DateTime = record { date = before.day.date; time = p.time } in
    let last : DateTime = record { date = p.to; time = p.time } in
    let clock = time_counts tz at p.time p.on_clock in
    let c : civil_nanos dt ≡ epoch_day dt.date *ℤ pos 86_400_000_000_000 +ℤ pos (shown_second tz at * 1_000_000_000) = civil_nanos-parts dt ∙ ap (λ t. epoch_day dt.date *ℤ pos 86_400_000_000_000 +ℤ pos t) clock in
    let n : ℤ = picked_instant tz dt in
    let q : ℤ = picked_instant tz last in
    let second = second_in_range_tells q b p.second in
    let low : pos 0 ≤ℤ n = not_negative at (shown_second tz at) (epoch_day dt.date) (shown_day tz at) (civil_nanos dt) n late (shown_late tz at) start c (picked_within tz dt).0 in
    let near : n ≤ℤ (q +ℤ pos 187_198_000_000_000) = not_later (epoch_day dt.date) (epoch_day last.date) (civil_nanos dt) (civil_nanos last) n q (time_nanos p.time) end (civil_nanos-parts dt) (civil_nanos-parts last) (picked_within tz dt).1 (picked_within tz last).0 in
    let fits = in_seconds n q b low near second.0 second.1 high in
    record {
      at = unsigned_abs (int_div n (pos 1_000_000_000));
      is = moved_is tz at mk dk _ (record {
        date = p.date;
        time = p.time;
        to = before.day.date;
        on_day = p.on_day;
        on_clock = p.on_clock;
        there = ap date_on (sym before.day.is) ∙ date_on-date before.day.date;
        second = second_in_range_is n low fits.0;
      });
      near = fits.1;
    }

-- ---- lengths

below_tells : (t : Bool) (n b : ℕ) → (if t then Some n else None) ≡ Some b → n ≡ b
below_tells true n b e = cc
below_tells false n b e = absurd (cc)

is_below : (n m : ℕ) → n < m → nat_lt n m ≡ true
is_below n m lt = lt-ltb n m lt

below_is : (n : ℕ) → n < limit → below_limit n ≡ Some n
below_is n lt = ap (λ t. if t then Some n else None) (is_below n limit lt)

seconds_before : (at s k n b : ℕ) → k ≤ n → b + 0 < limit → below_limit (at + s * n) ≡ Some b → IsNear (below_limit (at + s * k)) (b + 0)
seconds_before at s k n b le high e =
    let is : at + s * n ≡ b = below_tells (nat_lt (at + s * n) limit) (at + s * n) b e in
    let less : s * k ≤ s * n = grind (arith, le) in
    record { at = at + s * k; is = below_is (at + s * k) (omega (arith, less, is, high)); near = omega (arith, less, is) }

times_before : (m k n : ℕ) → k ≤ n → m * k ≤ m * n
times_before m k n le = grind (arith, le)

pub added_before : (at : ℕ) (l : Length) (tz : TimeZone) (k n b : ℕ) → k ≤ n → shift_of l ≤ at → b + shift_of l < limit → added at l n tz ≡ Some b → IsNear (added at l k tz) (b + shift_of l)
unfolding added
added_before at l tz k n b le late high e = by_kind ((l.months == 0) && (l.days == 0)) late high e
  where
    by_kind : (t : Bool) → (if t then 0 else 187_198) ≤ at → b + (if t then 0 else 187_198) < limit
        → (if t then below_limit (at + l.seconds * n) else moved at (l.months * n) (l.days * n) tz) ≡ Some b
        → IsNear (if t then below_limit (at + l.seconds * k) else moved at (l.months * k) (l.days * k) tz) (b + (if t then 0 else 187_198))
    by_kind true late high e = seconds_before at l.seconds k n b le high e
    by_kind false late high e = moved_before tz at (l.months * k) (l.days * k) (l.months * n) (l.days * n) b (times_before l.months k n le) (times_before l.days k n le) late high e
