use Rattle.std.proofs.Common.{◌≡◌, ◌++◌, map, drop}
use Rattle.tw_text.specs.Table.{row_texts}
use Rattle.timew_cmd.specs.Ranges.{rows_within}
use Rattle.timew_cmd.specs.Commands.Summary.{cells}
use Rattle.timew_cmd.proofs.commands.summary.cells_within.Given as goal

abbrev pub invariant-loop-k : goal.invariant-loop-k
invariant-loop-k l =
    map row_texts l.lines.items ++ map (cells l.from l.to l.now l.zone) (rows_within l.from l.to l.now (drop l.k l.rows))
    ≡ map (cells l.from l.to l.now l.zone) (rows_within l.from l.to l.now l.rows)
