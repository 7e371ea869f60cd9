use Rattle.tw_terms.proofs.FirstParts.{first_part, only_part, part_shorter}
use Rattle.tw_terms.proofs.id_word.cut_part.Goals as goal

pub returns-in-Some-clause-parts : goal.returns-in-Some-clause-parts
returns-in-Some-clause-parts c = first_part 44 c.args.text.now c.in-Some.part.now c.in-Some.rest.now c.in-Some.ensures

pub returns-in-Some-clause-shorter : goal.returns-in-Some-clause-shorter
returns-in-Some-clause-shorter c = part_shorter 44 c.args.text.now c.in-Some.part.now c.in-Some.rest.now c.in-Some.ensures

pub returns-in-None-clause-parts : goal.returns-in-None-clause-parts
returns-in-None-clause-parts c = only_part 44 c.args.text.now c.in-None.ensures
