use Rattle.std.proofs.Common.{sym, ◌∙◌, ap, take}
use Rattle.tw_time.specs.Tables.{entries}
use Rattle.tw_text.proofs.TextFacts.{digits_of_front}
use Rattle.tw_time.proofs.LengthFacts.{look_up_small}
use Rattle.tw_time.proofs.length.counted.Goals as goal

pub count_of_units-requires-clause-digits : goal.count_of_units-requires-clause-digits
count_of_units-requires-clause-digits c =
    digits_of_front c.args.text.now c.split_at.result.0.now (c.split_at.ensures.front ∙ ap (λ n. take n c.args.text.now) c.count_digits.ensures.value)

pub count_of_units-requires-clause-small : goal.count_of_units-requires-clause-small
count_of_units-requires-clause-small c = look_up_small c.split_at.result.1.now (entries c.args.table.now) c.in-Some.one c.requires (sym c.look_up.ensures ∙ c.in-Some.is)
