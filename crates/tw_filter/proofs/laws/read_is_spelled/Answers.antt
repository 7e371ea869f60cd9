use Rattle.tw_filter.proofs.SpelledTokens.{read_is_spelled}
use Rattle.tw_filter.proofs.laws.read_is_spelled.Goals as goal

pub returns : goal.returns
returns c = read_is_spelled
