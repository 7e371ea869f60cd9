use Rattle.tw_sync.proofs.PositionLemmas.{chain_fits}
use Rattle.tw_sync.proofs.laws.chain_fits.Goals as goal

pub returns : goal.returns
returns c = chain_fits
