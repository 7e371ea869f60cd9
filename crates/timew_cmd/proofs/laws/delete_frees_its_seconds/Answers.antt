use Rattle.timew_cmd.proofs.LabelledSeconds.{delete_frees}
use Rattle.timew_cmd.proofs.laws.delete_frees_its_seconds.Goals as goal

pub returns : goal.returns
returns c = λ ids rows next now are is. delete_frees ids rows next are is
