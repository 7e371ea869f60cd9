use Rattle.tw_bodies.proofs.StepSpelled.{read_is_spelled}
use Rattle.tw_bodies.proofs.laws.what_is_read_is_spelled_so.Goals as goal

pub returns : goal.returns
returns c = read_is_spelled
