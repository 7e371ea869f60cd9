use Rattle.std.proofs.Common.{◌≡◌, pos, w8, w16, to_z, arith, subst, IsOk, sym, ◌∙◌}
use Rattle.std.proofs.lemmas.Int.{to_z_pos}
use Rattle.std.proofs.lemmas.Result.{IfOk-at_ok}
use Rattle.jiff_core.specs.Calendar.{IsDate}
use Rattle.jiff_core.proofs.CalendarLemmas.{days_in_month_bounds}
use Rattle.jiff_core.proofs.SignedLemmas.{signed_arith}
use Rattle.tw_time.specs.Civil.{date_of}
use Rattle.tw_time.proofs.CivilFacts.{date_of_none, date_of-date}
use Rattle.tw_time.proofs.calendar.date_of.Goals as goal
use Rattle.tw_time.proofs.calendar.date_of.Goals.{then-year-gt9999-via-then-year-gt9999, then-year-gt9999-via-else-year-gt9999+then-month-gt12, then-year-gt9999-via-else-year-gt9999+else-month-gt12+then-day-gt31}

pub returns-then-year-gt9999 : goal.returns-then-year-gt9999
returns-then-year-gt9999 c = sym (date_of_none (pos c.args.year) c.args.month c.args.day (λ is.
    let month = days_in_month_bounds (pos c.args.year) c.args.month in
    elim c.then-year-gt9999.branch [
      | then-year-gt9999-via-then-year-gt9999 w ↦ omega (arith, signed_arith, is.0.1)
      | then-year-gt9999-via-else-year-gt9999+then-month-gt12 w ↦ omega (arith, is.1.1)
      | then-year-gt9999-via-else-year-gt9999+else-month-gt12+then-day-gt31 w ↦ omega (arith, is.2.1, month.0)
    ]))

pub returns-in_default : goal.returns-in_default
returns-in_default c = sym (date_of_none (pos c.args.year) c.args.month c.args.day (λ is.
    let year : to_z w16 c.args.year ≡ pos c.args.year = to_z_pos w16 c.args.year (omega arith) in
    let month : to_z w8 c.args.month ≡ pos c.args.month = to_z_pos w8 c.args.month (omega arith) in
    let day : to_z w8 c.args.day ≡ pos c.args.day = to_z_pos w8 c.args.day (omega arith) in
    let plain : IsDate (pos c.args.year) (pos c.args.month) (pos c.args.day) =
    (is.0, (omega (arith, signed_arith, is.1.0), omega (arith, signed_arith, is.1.1)), (omega (arith, signed_arith, is.2.0), omega (arith, signed_arith, is.2.1))) in
    let ok : IsDate (to_z w16 c.args.year) (to_z w8 c.args.month) (to_z w8 c.args.day) = rw (year, month, day) plain in
    let no = subst IsOk c.in_default.is (c.new.ensures.succeeds.1 ok) in cc))

pub returns : goal.returns
returns c =
    let year : to_z w16 c.args.year ≡ pos c.args.year = to_z_pos w16 c.args.year (omega arith) in
    let month : to_z w8 c.args.month ≡ pos c.args.month = to_z_pos w8 c.args.month (omega arith) in
    let day : to_z w8 c.args.day ≡ pos c.args.day = to_z_pos w8 c.args.day (omega arith) in
    let is = IfOk-at_ok _ c.in-Ok.is c.new.ensures.value in
    let y : pos c.args.year ≡ c.in-Ok.date.year = sym (is.0 ∙ year) in
    let m : c.args.month ≡ c.in-Ok.date.month = omega (arith, signed_arith, is.1 ∙ month) in
    let d : c.args.day ≡ c.in-Ok.date.day = omega (arith, signed_arith, is.2 ∙ day) in
    sym ((λ i. date_of (y i) (m i) (d i)) ∙ date_of-date c.in-Ok.date)
