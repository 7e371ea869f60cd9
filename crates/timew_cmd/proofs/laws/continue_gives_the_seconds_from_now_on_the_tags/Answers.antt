use Rattle.timew_cmd.proofs.SecondsHad.{continue_begins}
use Rattle.timew_cmd.proofs.laws.continue_gives_the_seconds_from_now_on_the_tags.Goals as goal

pub returns : goal.returns
returns c = λ parts rows next now r row is. continue_begins parts.id parts.adjust rows next now r is row
