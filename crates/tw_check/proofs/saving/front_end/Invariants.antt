use Rattle.std.proofs.Common.{◌≤◌, length}
use Rattle.tw_check.proofs.Cutting.{IsCutTo}
use Rattle.tw_check.proofs.saving.front_end.Given as goal

abbrev pub invariant-cuts : goal.invariant-cuts
invariant-cuts l = (l.end ≤ length l.file) × IsCutTo l.kind l.file l.end

abbrev pub decreases-cuts : goal.decreases-cuts
decreases-cuts l = l.end
