use Rattle.std.proofs.Common.{◌≡◌, drop}
use Rattle.tw_time.specs.Tables.{look_up, entries}
use Rattle.tw_time.proofs.table.look_up.Given as goal

abbrev pub invariant-loop-name : goal.invariant-loop-name
invariant-loop-name g l =
    look_up l.text (entries (drop l.name-index l.table)) ≡ look_up l.text (entries l.table)
