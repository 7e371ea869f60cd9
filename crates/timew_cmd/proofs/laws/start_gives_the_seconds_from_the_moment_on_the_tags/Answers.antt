use Rattle.timew_cmd.proofs.SecondsHad.{start_begins}
use Rattle.timew_cmd.proofs.laws.start_gives_the_seconds_from_the_moment_on_the_tags.Goals as goal

pub returns : goal.returns
returns c = λ parts rows next now is. start_begins parts.word parts.moment parts.tags parts.adjust rows next now is
