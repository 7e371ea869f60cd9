use Rattle.std.proofs.Common.{◌≡◌, ◌++◌, map, drop}
use Rattle.timew_cmd.specs.Ranges.{rows_within}
use Rattle.timew_cmd.specs.Commands.Export.{lines, row_text}
use Rattle.timew_cmd.proofs.Lines.{to_follow}
use Rattle.timew_cmd.proofs.commands.export.put_rows.Given as goal

abbrev pub invariant-loop-k : goal.invariant-loop-k
invariant-loop-k l =
    l.text.items ++ to_follow l.is_first (map row_text (rows_within l.from l.to l.now (drop l.k l.rows)))
    ≡ l.initial.text.items ++ lines (map row_text (rows_within l.from l.to l.now l.rows))
