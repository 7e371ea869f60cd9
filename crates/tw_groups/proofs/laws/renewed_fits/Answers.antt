use Rattle.tw_groups.proofs.Grouping.{renewed_fits}
use Rattle.tw_groups.proofs.laws.renewed_fits.Goals as goal

pub returns : goal.returns
returns c = renewed_fits
