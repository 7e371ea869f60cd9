use Rattle.std.proofs.lemmas.Str.Pattern.{contains_text}
use Rattle.tw_terms.proofs.Occurrences.{occurs_is}
use Rattle.tw_changes.proofs.effects.denotate.is_part.Goals as goal

pub returns : goal.returns
returns c = occurs_is c.args.text.now c.args.there.now c.contains.result (contains_text c.contains.result c.args.text.now c.args.there.now c.contains.ensures.cases)
