use Rattle.tw_sync.proofs.PositionLemmas.{chain_pushes}
use Rattle.tw_sync.proofs.laws.chain_pushes.Goals as goal

pub returns : goal.returns
returns c = chain_pushes
