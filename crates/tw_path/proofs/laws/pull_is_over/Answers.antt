use Rattle.tw_path.proofs.Walking.{pull_is_over}
use Rattle.tw_path.proofs.laws.pull_is_over.Goals as goal

pub returns : goal.returns
returns c = pull_is_over
