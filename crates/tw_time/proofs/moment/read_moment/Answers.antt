use Rattle.std.proofs.Common.{◌≡◌, sym, ap, ◌∙◌, None, Some}
use Rattle.tw_time.specs.Tables.{look_up}
use Rattle.tw_time.specs.Moments.{words, forms, formed, counted_moment}
use Rattle.tw_time.proofs.MomentFacts.{moment-formed}
use Rattle.tw_time.proofs.moment.read_moment.Goals as goal

pub returns-in-Some-formed-clause-value : goal.returns-in-Some-formed-clause-value
returns-in-Some-formed-clause-value c =
    let text = c.args.text.now in
    let bytes = c.as_bytes-bytes.ensures.value in
    let none : look_up text words ≡ None = ap (λ b. look_up b words) (sym bytes) ∙ sym c.look_up.ensures ∙ c.in_default.is in
    let some : formed text forms ≡ Some (c.in-Some-formed.form, c.in-Some-formed.parts) = ap (λ b. formed b forms) (sym bytes) ∙ sym c.formed.ensures ∙ c.in-Some-formed.is in
    c.form_moment.ensures.value ∙ sym (moment-formed text c.args.now c.args.zone.now _ none some)

pub returns-clause-value : goal.returns-clause-value
returns-clause-value c =
    let text = c.args.text.now in
    let bytes = c.as_bytes-bytes.ensures.value in
    let none : look_up text words ≡ None = ap (λ b. look_up b words) (sym bytes) ∙ sym c.look_up.ensures ∙ c.in_default.is in
    let no_form : formed text forms ≡ None = ap (λ b. formed b forms) (sym bytes) ∙ sym c.formed.ensures ∙ c.in_default-formed.is in
    c.counted_moment.ensures.value ∙ ap (λ b. counted_moment b c.args.now c.args.zone.now) bytes ∙ sym (moment-formed text c.args.now c.args.zone.now _ none no_form)
