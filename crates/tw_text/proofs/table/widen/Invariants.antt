use Rattle.std.proofs.Common.{◌≡◌, ◌-◌, ◌++◌, map, string_bytes, length, take, drop}
use Rattle.tw_text.specs.Table.{widened}
use Rattle.tw_text.proofs.table.widen.Given as goal

abbrev pub invariant-loop-n : goal.invariant-loop-n
invariant-loop-n l = take l.n l.widths.items ++ widened (drop l.n l.widths.items) (map string_bytes (drop l.n l.cells.items)) ≡ widened l.initial.widths.items (map string_bytes l.cells.items)

abbrev pub decreases-loop-n : goal.decreases-loop-n
decreases-loop-n l = length l.cells.items - l.n
