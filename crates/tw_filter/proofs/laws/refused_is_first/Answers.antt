use Rattle.tw_filter.proofs.RefusedWords.{refused_is_first}
use Rattle.tw_filter.proofs.laws.refused_is_first.Goals as goal

pub returns : goal.returns
returns c = refused_is_first
