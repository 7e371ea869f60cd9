use Rattle.timew_month.proofs.OneLine.{all_back}
use Rattle.timew_month.proofs.LineReadBack.{month_back}
use Rattle.timew_month.proofs.laws.lines_are_read_back.Goals as goal

pub returns : goal.returns
returns c = λ rows all. month_back rows (all_back rows all)
