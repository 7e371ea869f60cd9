use Rattle.timew_cmd.proofs.SecondsHad.{cancel_frees}
use Rattle.timew_cmd.proofs.laws.cancel_frees_the_seconds_of_the_open_interval.Goals as goal

pub returns : goal.returns
returns c = λ rows next front last now are here is. cancel_frees rows next front last are here is
