use Rattle.timew_cmd.proofs.ReplacedSeconds.{move_moves}
use Rattle.timew_cmd.proofs.laws.move_gives_an_interval_other_seconds.Goals as goal

pub returns : goal.returns
returns c = λ parts rows next now r are row is. move_moves parts.id parts.word parts.start parts.adjust rows next r are row is
