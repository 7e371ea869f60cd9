-- the changes so far and those of what is left are all
use Rattle.std.proofs.Common.{◌≡◌, ◌++◌, map as list_map}
use Rattle.std.specs.FinMap as map
use Rattle.tw_commands.specs.Makes.Duplicate.{change_of}
use Rattle.tw_commands.proofs.commands.duplicate.changes_of.Given as goal

abbrev pub invariant-loop-left : goal.invariant-loop-left
invariant-loop-left l = l.changes.items ++ list_map change_of (map.entries l.left) ≡ list_map change_of (map.entries l.fn.made)

abbrev pub decreases-loop-left : goal.decreases-loop-left
decreases-loop-left l = map.len l.left
