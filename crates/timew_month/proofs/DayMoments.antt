-- A moment of a day is the day's first second and the second that its clock shows.
use Rattle.std.proofs.Common.{◌≡◌, ℕ, ◌+◌, ◌-◌, ◌*◌, ◌/◌, ◌%◌, ◌<◌, pos, ◌+ℤ◌, ◌*ℤ◌, ◌≤ℤ◌, Bool, true, false, not, ◌==◌, List, ◌++◌, take, drop, length, Option, Some, None, option_and_then, codes, refl, sym, ap, ◌∙◌, arith}
use Rattle.jiff_core.proofs.SignedLemmas.{signed_arith}
use Rattle.jiff.specs.Types.{Date, Time, DateTime, UTC}
use Rattle.jiff.specs.Words.{epoch_day}
use Rattle.jiff.proofs.ZoneFacts.{offset_at-UTC}
use Rattle.std.specs.Result.{result_ok}
use Rattle.std.proofs.lemmas.Bool.Decides.{nat_tests}
use Rattle.std.proofs.lemmas.List.{length-take}
use Rattle.tw_time.specs.declared.form.Parts.{Parts}
use Rattle.tw_time.specs.Placed.{at_civil}
use Rattle.tw_time.specs.Forms.{printed, no_parts}
use Rattle.tw_time.proofs.FormFacts.{filled_after-length}
use Rattle.tw_time.specs.Civil.{limit, nanos, Shows, shown_seconds, shown_day, shown_date, shown_time}
use Rattle.tw_time.specs.Basic.{basic, basic_moment, utc_parts, parts_of, text_of_parts}
use Rattle.tw_time.proofs.BasicFacts.{utc_parts_is, basic_is}
use Rattle.tw_time.proofs.CivilFacts.{date_on-day}
use Rattle.tw_time.proofs.DayFacts.{year_shown}
use Rattle.tw_time.proofs.RoundTrip.{basic_moment-printed}
use Rattle.tw_time.proofs.ShownFacts.{by_seconds}
use Rattle.tw_time.proofs.UtcFacts.{shows_in_utc, at_civil-shown, parts_of-printable}
use Rattle.timew_month.specs.Body.{◌>>=◌}
use Rattle.timew_month.specs.Line.{moment_at}
use Rattle.timew_month.specs.Day.{clock_text}
use Rattle.timew_month.proofs.ExactLine.{printed_is}

-- the date and the time of day that UTC's clock shows at a second
record IsShown (at : ℕ) : Type 0 where
  pub date : Date
  pub time : Time
  pub day : shown_date UTC at ≡ Some date
  pub parts : utc_parts at ≡ Some (parts_of date time)

shown : (at : ℕ) → length (basic at) ≡ 16 → IsShown at
unfolding basic
shown at size = by_case (shown_date UTC at) (shown_time UTC at) refl refl size
  where
    by_case : (d : Option Date) (t : Option Time) → shown_date UTC at ≡ d → shown_time UTC at ≡ t
        → length (text_of_parts (codes "YYYYMMDDThhmmssZ") (option_and_then (λ (x : Date). option_and_then (λ (y : Time). Some (parts_of x y)) t) d)) ≡ 16 → IsShown at
    by_case None t is_d is_t size = absurd (omega (arith, size))
    by_case (Some date) None is_d is_t size = absurd (omega (arith, size))
    by_case (Some date) (Some time) is_d is_t size =
        record { date = date; time = time; day = is_d; parts = utc_parts_is at date time is_d is_t }

-- the time of day at a second of the day
abbrev clock : (second : ℕ) → second < 86_400 → Time
clock second in_day = record {
  hour = second / 3600;
  minute = second / 60 % 60;
  second = second % 60;
  subsec_nanosecond = 0;
  hour_in = omega arith;
  minute_in = omega arith;
  second_in = omega arith;
  subsec_in = omega arith;
}

-- the second of the day of a moment
abbrev in_day_of : ℕ → ℕ → ℕ
in_day_of at second = at - at % 86_400 + second

module _ (at second : ℕ) (below : at < limit) (in_day : second < 86_400) (s : IsShown at) where
  abbrev dated : DateTime
  dated = record { date = s.date; time = clock second in_day }

  same_day : in_day_of at second / 86_400 ≡ at / 86_400
  same_day = omega (arith, in_day)

  in_the_day : in_day_of at second % 86_400 ≡ second
  in_the_day = omega (arith, in_day)

  counted : shown_seconds UTC at ≡ pos (at / 86_400) *ℤ pos 86_400 +ℤ pos (at % 86_400)
  counted = omega (arith, signed_arith, offset_at-UTC (nanos at))

  day : epoch_day s.date ≡ pos (in_day_of at second / 86_400)
  day =
      date_on-day (shown_day UTC at) s.date s.day
      ∙ (by_seconds (shown_seconds UTC at) (pos (at / 86_400)) (at % 86_400) (omega arith) counted).0
      ∙ ap pos (sym same_day)

  hour_and_rest : second / 3600 * 3600 + second / 60 % 60 * 60 + second % 60 ≡ second
  hour_and_rest = omega arith

  shows : Shows UTC (in_day_of at second) dated
  shows = shows_in_utc (in_day_of at second) dated day (hour_and_rest ∙ sym in_the_day) refl

  late : pos 1969 ≤ℤ s.date.year
  late = year_shown UTC (in_day_of at second) dated shows

  printed_text : take 9 (basic at) ++ clock_text second ≡ printed (codes "YYYYMMDDThhmmssZ") (parts_of s.date (clock second in_day))
  printed_text = ap (λ (l : List ℕ). take 9 l ++ clock_text second) (basic_is at (parts_of s.date s.time) s.parts)

  read : basic_moment (take 9 (basic at) ++ clock_text second) ≡ Some (in_day_of at second)
  read =
      ap basic_moment printed_text
      ∙ basic_moment-printed (parts_of s.date (clock second in_day)) (in_day_of at second) (parts_of-printable s.date (clock second in_day) late)
      (at_civil-shown (in_day_of at second) dated (omega (arith, below, in_day)) shows late)

-- a text that begins as that of a moment, and has another second of its day after the date
pub moment_in_day : (at second : ℕ) (known text date behind : List ℕ) → at < limit → basic_moment known ≡ Some at → text ≡ date ++ behind → date ≡ take 9 known
    → behind ≡ clock_text second → second < 86_400 → basic_moment text ≡ Some (at - at % 86_400 + second)
moment_in_day at second known text date behind below is parts front back in_day =
    let printed = printed_is known at is in
    ap basic_moment (parts ∙ (λ i. (front ∙ ap (take 9) printed.0) i ++ back i))
    ∙ read at second below in_day (shown at printed.1.size)

-- a text of another length is that of no moment
sized_moment : (text : List ℕ) → length text < 16 → basic_moment text ≡ None
unfolding basic_moment
sized_moment text short =
    ap (option_and_then (λ (p : Parts). result_ok (at_civil p UTC))) (filled_after-length (codes "YYYYMMDDThhmmssZ") text no_parts (λ same. absurd (omega (arith, short, same))))

-- the text of a moment has 16 bytes
pub moment_size : (text : List ℕ) (at : ℕ) → basic_moment text ≡ Some at → length text ≡ 16
unfolding basic_moment
moment_size text at is = by_case (length text == 16) refl
  where
    by_case : (b : Bool) → (length text == 16) ≡ b → length text ≡ 16
    by_case true same = grind (arith, nat_tests)
    by_case false other =
        let none : basic_moment text ≡ None = ap (option_and_then (λ (p : Parts). result_ok (at_civil p UTC))) (filled_after-length (codes "YYYYMMDDThhmmssZ") text no_parts (λ same. let no : true ≡ false = ap (λ (n : ℕ). n == 16) same ∙ other in absurd (cc))) in
        let no : None ≡ Some at = sym none ∙ is in
        absurd (cc)

-- too few bytes have no moment
pub no_moment_at : (bytes : List ℕ) → length bytes < 16 → None ≡ moment_at bytes
no_moment_at bytes short =
    sym (ap (λ (o : Option ℕ). o >>= λ at. Some (at, drop 16 bytes)) (sized_moment (take 16 bytes) (omega (arith, short, length-take 16 bytes))))

pub not_other : (b : Bool) → false ≡ not b → true ≡ b
not_other true is = refl
not_other false is = absurd (cc)
