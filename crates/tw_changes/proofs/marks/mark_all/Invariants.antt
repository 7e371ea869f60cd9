-- the signs that are held make the tasks with the marks so far
use Rattle.std.proofs.Common.{take}
use Rattle.std.specs.FinMap as map
use Rattle.tw_changes.specs.Marks.{mark_all, AreHeld}
use Rattle.tw_changes.proofs.marks.mark_all.Given as goal

abbrev pub invariant-loop-mark : goal.invariant-loop-mark
invariant-loop-mark l = AreHeld l.tasks (mark_all l.tasks map.empty (take l.mark-index l.marks.items)) l.held.entries
