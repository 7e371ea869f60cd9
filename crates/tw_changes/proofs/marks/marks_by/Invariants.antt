use Rattle.std.proofs.Common.{◌≡◌, ◌++◌, drop}
use Rattle.tw_changes.specs.Marks.{marks_by}
use Rattle.tw_changes.proofs.marks.marks_by.Given as goal

abbrev pub invariant-loop-change : goal.invariant-loop-change
invariant-loop-change l = l.marks.items ++ marks_by l.sign l.tasks (drop l.change-index l.changes.items) ≡ marks_by l.sign l.tasks l.changes.items
