-- the changes so far and those that are left are all
use Rattle.std.proofs.Common.{◌≡◌, ◌++◌}
use Rattle.tw_changes.specs.Marks.{held_changes}
use Rattle.tw_changes.proofs.marks.changes_of.Given as goal

abbrev pub invariant-loop-uuid : goal.invariant-loop-uuid
invariant-loop-uuid l = l.changes.items ++ held_changes l.now l.tasks l.uuid-iterator ≡ held_changes l.now l.tasks l.held.entries
