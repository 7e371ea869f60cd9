use Rattle.std.proofs.Common.{◌≡◌, ◌++◌, map, take}
use Rattle.tw_text.specs.Table.{layout_of, lines, row_texts}
use Rattle.tw_text.proofs.table.push_lines.Given as goal

abbrev pub invariant-loop-row : goal.invariant-loop-row
invariant-loop-row l = l.text.items ≡ l.initial.text.items ++ lines (layout_of l.columns) l.widths (map row_texts (take l.row-index l.rows.items))
