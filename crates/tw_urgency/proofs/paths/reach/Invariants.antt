use Rattle.tw_urgency.specs.Paths.{visits_left}
use Rattle.tw_urgency.proofs.Reaching.{IsHalfway}
use Rattle.tw_urgency.proofs.paths.reach.Given as goal

abbrev pub invariant-loop-uuid : goal.invariant-loop-uuid
invariant-loop-uuid l = IsHalfway l.tasks l.fn.from l.fn.reached l.reached l.to_visit.items

abbrev pub decreases-loop-uuid : goal.decreases-loop-uuid
decreases-loop-uuid l = visits_left l.tasks l.reached l.to_visit.items
