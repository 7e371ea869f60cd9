use Rattle.std.proofs.Common.{◌<◌, ◌^◌, sym, subst, ◌∙◌, unsigned_abs, to_z, of_z, w64, arith}
use Rattle.std.proofs.lemmas.Int.{to_z-of_z}
use Rattle.std.proofs.lemmas.Str.{IsUtf8-from_ascii}
use Rattle.std.specs.Str.{IsAscii}
use Rattle.jiff_core.proofs.SignedLemmas.{one_part}
use Rattle.jiff.proofs.SpanFacts.{signed_arith}
use Rattle.json.specs.Print.{IsNumber}
use Rattle.tw_text.proofs.AsciiFacts.{is_ok_text, decimal3-ascii}
use Rattle.tw_export.proofs.OkTexts.{of_ok}
use Rattle.tw_export.proofs.Thousandths.{decimal3_number}
use Rattle.tw_export.proofs.own.put_thousandths.Goals as goal

pub unwrap-requires : goal.unwrap-requires
unwrap-requires c =
    let z = to_z w64 (of_z w64 c.args.thousandths) in
    let back = to_z-of_z w64 c.args.thousandths c.ranges.thousandths in
    let fits = c.ranges.thousandths in
    let small : unsigned_abs z < 2 ^ 64 = subst (λ x. unsigned_abs x < 2 ^ 64) (sym back) (grind (arith, signed_arith, fits, one_part c.args.thousandths)) in
    let text = c.put_decimal3-text.ensures.text in
    is_ok_text _ _ _ c.from_utf8.result (IsUtf8-from_ascii _ (subst IsAscii (sym text) (decimal3-ascii z small))) c.from_utf8.ensures.cases

pub number-requires : goal.number-requires
number-requires c =
    let z = to_z w64 (of_z w64 c.args.thousandths) in
    let back = to_z-of_z w64 c.args.thousandths c.ranges.thousandths in
    let fits = c.ranges.thousandths in
    let small : unsigned_abs z < 2 ^ 64 = subst (λ x. unsigned_abs x < 2 ^ 64) (sym back) (grind (arith, signed_arith, fits, one_part c.args.thousandths)) in
    let text = c.put_decimal3-text.ensures.text in
    subst IsNumber (sym ((of_ok _ _ c.from_utf8.result c.unwrap.result c.unwrap.ensures c.from_utf8.ensures.cases).0 ∙ text)) (decimal3_number z small)
