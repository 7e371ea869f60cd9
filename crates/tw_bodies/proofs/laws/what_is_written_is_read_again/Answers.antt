use Rattle.tw_bodies.proofs.StepAgain.{step_again}
use Rattle.tw_bodies.proofs.laws.what_is_written_is_read_again.Goals as goal

pub returns : goal.returns
returns c = step_again
