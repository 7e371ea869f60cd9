use Rattle.tw_filter.proofs.SpelledWords.{words_are_spelled}
use Rattle.tw_filter.proofs.laws.words_are_spelled.Goals as goal

pub returns : goal.returns
returns c = words_are_spelled
