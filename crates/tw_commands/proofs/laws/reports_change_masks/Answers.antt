use Rattle.tw_commands.proofs.TasksThatStay.{reports_change_masks}
use Rattle.tw_commands.proofs.laws.reports_change_masks.Goals as goal

pub returns : goal.returns
returns c = reports_change_masks
