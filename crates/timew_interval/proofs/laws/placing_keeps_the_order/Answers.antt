use Rattle.timew_interval.proofs.Placed.{are_rows-placed}
use Rattle.timew_interval.proofs.laws.placing_keeps_the_order.Goals as goal

pub returns : goal.returns
returns c = λ new rows is are. are_rows-placed new is rows are
