use Rattle.std.proofs.Common.{◌-◌, ◌≤◌}
use Rattle.tw_model.proofs.runs.room_for.Given as goal

abbrev pub invariant-loop-at : goal.invariant-loop-at
invariant-loop-at g l = l.from ≤ l.at

abbrev pub decreases-loop-at : goal.decreases-loop-at
decreases-loop-at g l = l.end - l.at
