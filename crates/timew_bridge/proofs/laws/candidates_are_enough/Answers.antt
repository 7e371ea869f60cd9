use Rattle.timew_bridge.proofs.Enough.{enough}
use Rattle.timew_bridge.proofs.laws.candidates_are_enough.Goals as goal

pub returns : goal.returns
returns c = enough
