use Rattle.tw_changes.proofs.TakenWords.{words_taken}
use Rattle.tw_changes.proofs.laws.words_are_taken.Goals as goal

pub returns : goal.returns
returns c = words_taken
