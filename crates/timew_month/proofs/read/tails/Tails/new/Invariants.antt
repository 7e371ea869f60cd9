use Rattle.std.proofs.Common.{◌-◌, ◌≤◌, length}
use Rattle.timew_month.specs.declared.read.tails.TheConstants.{PLACES}
use Rattle.timew_month.proofs.read.tails.Tails.new.Given as goal

abbrev pub invariant-loop-places : goal.invariant-loop-places
invariant-loop-places l = length l.places.items ≤ PLACES

abbrev pub decreases-loop-places : goal.decreases-loop-places
decreases-loop-places l = PLACES - length l.places.items
