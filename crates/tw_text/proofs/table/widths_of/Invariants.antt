use Rattle.std.proofs.Common.{◌≡◌, map, take}
use Rattle.tw_text.specs.Table.{layout_of, heading_widths, widths_of, row_texts}
use Rattle.tw_text.proofs.table.widths_of.Given as goal

abbrev pub invariant-loop-row : goal.invariant-loop-row
invariant-loop-row l = l.widths.items ≡ widths_of (heading_widths (layout_of l.columns)) (map row_texts (take l.row-index l.rows.items))
