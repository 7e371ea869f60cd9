use Rattle.timew_cmd.proofs.ReplacedSeconds.{shorten_moves}
use Rattle.timew_cmd.proofs.laws.shorten_takes_seconds_of_an_interval.Goals as goal

pub returns : goal.returns
returns c = λ parts rows next now end r are row closed is. shorten_moves parts.id parts.word parts.length parts.adjust rows next end r are row closed is
