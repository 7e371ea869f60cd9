use Rattle.tw_sync.proofs.PositionLemmas.{chain_pulls}
use Rattle.tw_sync.proofs.laws.chain_pulls.Goals as goal

pub returns : goal.returns
returns c = chain_pulls
