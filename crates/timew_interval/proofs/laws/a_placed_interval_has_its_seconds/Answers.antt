use Rattle.timew_interval.proofs.Placed.{at-placed}
use Rattle.timew_interval.proofs.laws.a_placed_interval_has_its_seconds.Goals as goal

pub returns : goal.returns
returns c = at-placed
