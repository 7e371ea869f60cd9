use Rattle.std.proofs.Common.{ap}
use Rattle.tw_hints.specs.Words.{or_empty}
use Rattle.tw_hints.proofs.refused.line_at.Goals as goal

pub returns-in-Some : goal.returns-in-Some
returns-in-Some c = ap or_empty c.in-Some.ensures

pub returns-in-None : goal.returns-in-None
returns-in-None c = ap or_empty c.in-None.ensures
