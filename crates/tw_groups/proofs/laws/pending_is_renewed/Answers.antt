use Rattle.tw_groups.proofs.Grouping.{pending_is_renewed}
use Rattle.tw_groups.proofs.laws.pending_is_renewed.Goals as goal

pub returns : goal.returns
returns c = pending_is_renewed
