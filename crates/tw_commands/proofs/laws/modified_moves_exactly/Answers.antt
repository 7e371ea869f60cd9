use Rattle.tw_commands.proofs.ExactMoments.{modified_exactly}
use Rattle.tw_commands.proofs.laws.modified_moves_exactly.Goals as goal

pub returns : goal.returns
returns c = modified_exactly
