use Rattle.std.proofs.Common.{◌≡◌, map, string_bytes, take}
use Rattle.tw_text.specs.Table.{layout_of, headings}
use Rattle.tw_text.proofs.table.heading_cells.Given as goal

abbrev pub invariant-loop-column : goal.invariant-loop-column
invariant-loop-column l = map string_bytes l.cells.items ≡ headings (layout_of (take l.column-index l.columns))
