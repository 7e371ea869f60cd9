use Rattle.std.proofs.Common.{◌≡◌, ap, sym, ◌∙◌, unsigned_abs, subst, FitsSigned, w16, arith, Some}
use Rattle.std.proofs.lemmas.Int.{to_z-of_z}
use Rattle.jiff.proofs.SpanFacts.{signed_arith}
use Rattle.jiff.specs.Types.{UTC}
use Rattle.tw_time.specs.declared.form.Parts.{Parts}
use Rattle.tw_time.specs.Civil.{Shows}
use Rattle.tw_time.specs.Forms.{IsPrintable}
use Rattle.tw_time.specs.Placed.{at_civil}
use Rattle.tw_time.specs.Basic.{parts_of}
use Rattle.tw_time.specs.Extended.{second_of_parts}
use Rattle.tw_time.proofs.BasicFacts.{utc_parts_is}
use Rattle.tw_time.proofs.ShownFacts.{date_shown, time_shown}
use Rattle.tw_time.proofs.DayFacts.{year_shown}
use Rattle.tw_time.proofs.UtcFacts.{at_civil-shown, second_of_parts-shown, parts_of-printable}
use Rattle.tw_time.proofs.clock.utc_parts.Goals as goal

pub returns : goal.returns
returns c =
    let dt = c.shown_in_utc-shown.result in
    let date = dt.date in
    let shows : Shows UTC c.args.at dt = c.shown_in_utc-shown.ensures in
    let late = year_shown UTC c.args.at dt shows in
    let within = date.year_in in
    let fits : FitsSigned w16 date.year = omega (arith, signed_arith, within) in
    let year = c.unsigned_abs.ensures.value ∙ ap unsigned_abs (to_z-of_z w16 date.year fits) in
    let made : Parts = record { year = c.unsigned_abs.result; month = c.from.result; day = c.from-2.result; hour = c.from-3.result; minute = c.from-4.result; second = c.from-5.result } in
    let is : made ≡ parts_of dt.date dt.time = λ i. record { year = year i; month = c.from.ensures i; day = c.from-2.ensures i; hour = c.from-3.ensures i; minute = c.from-4.ensures i; second = c.from-5.ensures i } in
    record {
      shown = utc_parts_is c.args.at dt.date dt.time (date_shown UTC c.args.at dt shows) (time_shown UTC c.args.at dt shows) ∙ ap (λ p. Some p) (sym is);
      placed = ap (λ p. at_civil p UTC) is ∙ at_civil-shown c.args.at dt c.requires shows late;
      counted = ap second_of_parts is ∙ second_of_parts-shown c.args.at dt shows late;
      printable = subst IsPrintable (sym is) (parts_of-printable dt.date dt.time late);
    }
