use Rattle.std.proofs.Common.{sym, ◌∙◌}
use Rattle.tw_time.proofs.UnitFacts.{numbered_one}
use Rattle.tw_time.proofs.moment.counted_moment.Goals as goal

pub add_length-requires-clause-of_one_unit : goal.add_length-requires-clause-of_one_unit
add_length-requires-clause-of_one_unit c = numbered_one c.args.text.now c.in_ok-length.length (sym c.numbered.ensures ∙ c.in_ok-length.was)
