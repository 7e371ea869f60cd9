use Rattle.timew_cmd.specs.Open.{moment_or}
use Rattle.timew_cmd.proofs.SecondsHad.{stop_ends}
use Rattle.timew_cmd.proofs.laws.stop_frees_the_seconds_from_the_moment_on.Goals as goal

pub returns : goal.returns
returns c = λ parts rows next now are is. stop_ends parts.word (moment_or now parts.moment) rows next are is
