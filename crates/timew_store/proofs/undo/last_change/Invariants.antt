use Rattle.timew_store.proofs.LastChange.{IsWalking}
use Rattle.timew_store.proofs.undo.last_change.Given as goal

abbrev pub invariant-loop-n : goal.invariant-loop-n
invariant-loop-n g l = IsWalking g.D.Disk.model l.journal l.fn.disk l.disk l.n l.depth

abbrev pub decreases-loop-n : goal.decreases-loop-n
decreases-loop-n g l = l.n
