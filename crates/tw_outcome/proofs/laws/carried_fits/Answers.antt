use Rattle.tw_outcome.proofs.Ends.{carried_fits}
use Rattle.tw_outcome.proofs.laws.carried_fits.Goals as goal

pub returns : goal.returns
returns c = carried_fits
