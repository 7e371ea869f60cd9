use Rattle.timew_cmd.proofs.ReplacedSeconds.{lengthen_moves}
use Rattle.timew_cmd.proofs.laws.lengthen_gives_an_interval_more_seconds.Goals as goal

pub returns : goal.returns
returns c = λ parts rows next now end r are row closed is. lengthen_moves parts.id parts.word parts.length parts.adjust rows next end r are row closed is
