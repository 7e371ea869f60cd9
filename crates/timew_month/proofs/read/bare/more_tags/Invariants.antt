use Rattle.std.proofs.Common.{List, ℕ, length}
use Rattle.timew_month.specs.Exact.{AreTaken}
use Rattle.timew_month.proofs.read.bare.more_tags.Given as goal

abbrev pub invariant-loop-tag : goal.invariant-loop-tag
invariant-loop-tag l = (text : List ℕ) → AreTaken l.fn.taken l.bytes text → AreTaken l.tags l.rest text

abbrev pub decreases-loop-tag : goal.decreases-loop-tag
decreases-loop-tag l = length l.rest
