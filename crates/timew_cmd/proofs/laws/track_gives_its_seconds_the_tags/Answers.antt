use Rattle.timew_cmd.proofs.SecondsHad.{track_takes}
use Rattle.timew_cmd.proofs.laws.track_gives_its_seconds_the_tags.Goals as goal

pub returns : goal.returns
returns c = λ parts rows next now is. track_takes parts.word parts.start parts.end parts.tags parts.adjust rows next is
