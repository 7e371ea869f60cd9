use Rattle.tw_sync.proofs.PositionLemmas.{chain_starts}
use Rattle.tw_sync.proofs.laws.chain_starts.Goals as goal

pub returns : goal.returns
returns c = chain_starts
