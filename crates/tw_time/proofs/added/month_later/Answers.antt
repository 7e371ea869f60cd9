use Rattle.std.proofs.Common.{◌≡◌, pos, ◌<ℤ◌, arith, w64, ◌∙◌, subst, sym, ap, IsOk, to_z}
use Rattle.std.proofs.lemmas.Int.{to_z_pos}
use Rattle.std.proofs.lemmas.Result.{IfOk-at_ok}
use Rattle.jiff.specs.Types.{Month}
use Rattle.jiff.specs.Words.{IsOnly, epoch_day, add_months}
use Rattle.jiff.proofs.SpanFacts.{signed_arith}
use Rattle.tw_time.specs.Civil.{date_on}
use Rattle.tw_time.proofs.CivilFacts.{date_on_none, date_on-date}
use Rattle.tw_time.proofs.DayFacts.{shiftable_by_day}
use Rattle.tw_time.proofs.MonthSpans.{date_add-months, can_add-months, too_late}
use Rattle.tw_time.proofs.added.month_later.Goals as goal

pub returns-then-months-gt239976 : goal.returns-then-months-gt239976
returns-then-months-gt239976 c = sym (date_on_none _ (λ within.
    let more = c.if-months-gt239976.true in
    let late : pos 239_976 <ℤ pos c.args.months = omega (arith, signed_arith, more) in
    too_late c.args.date (pos c.args.months) c.requires late (shiftable_by_day c.args.date c.args.months within)))

pub returns-in_default : goal.returns-in_default
returns-in_default c = sym (date_on_none _ (λ within.
    let small : to_z w64 c.args.months ≡ pos c.args.months = to_z_pos w64 c.args.months (omega arith) in
    let only : IsOnly Month (pos c.args.months) c.months.result = rw small at c.months.ensures in
    let can = can_add-months c.args.date (pos c.args.months) c.months.result only in
    let ok = c.checked_add.ensures.succeeds.1 (can.1 (shiftable_by_day c.args.date c.args.months within, within)) in
    let refuted = subst IsOk c.in_default.is ok in cc))

pub returns : goal.returns
returns c =
    let small : to_z w64 c.args.months ≡ pos c.args.months = to_z_pos w64 c.args.months (omega arith) in
    let only : IsOnly Month (pos c.args.months) c.months.result = rw small at c.months.ensures in
    let day : epoch_day c.in-Ok.later ≡ add_months c.args.date (pos c.args.months) = IfOk-at_ok _ c.in-Ok.is c.checked_add.ensures.value ∙ date_add-months c.args.date (pos c.args.months) c.months.result only in
    sym (ap date_on (sym day) ∙ date_on-date c.in-Ok.later)
