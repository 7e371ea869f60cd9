use Rattle.std.proofs.Common.{◌≡◌, w64, to_z, of_z, ap, sym, ◌∙◌, subst, IsOk, Some}
use Rattle.std.proofs.lemmas.Int.{to_z-of_z}
use Rattle.std.proofs.lemmas.Result.{IfOk-at_ok}
use Rattle.jiff.specs.Words.{IsEpochDay}
use Rattle.tw_time.specs.Civil.{date_on}
use Rattle.tw_time.proofs.CivilFacts.{date_on_none, date_on-date}
use Rattle.tw_time.proofs.calendar.date_on.Goals as goal

pub returns-in_default : goal.returns-in_default
returns-in_default c =
    let back : to_z w64 (of_z w64 c.args.day) ≡ c.args.day = to_z-of_z w64 c.args.day c.ranges.day in
    sym (date_on_none c.args.day (λ within.
    let refuted = subst IsOk c.in_default.is (c.from_unix_epoch_day.ensures.succeeds.1 (subst IsEpochDay (sym back) within)) in cc))

pub returns : goal.returns
returns c =
    let back : to_z w64 (of_z w64 c.args.day) ≡ c.args.day = to_z-of_z w64 c.args.day c.ranges.day in
    let day = IfOk-at_ok _ c.in-Ok.is c.from_unix_epoch_day.ensures.value ∙ back in
    ap (λ d. Some d) c.from_plain.ensures ∙ sym (ap date_on (sym day) ∙ date_on-date c.in-Ok.date)
