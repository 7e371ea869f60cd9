use Rattle.std.proofs.Common.{◌≡◌, take}
use Rattle.tw_text.specs.Table.{layout_of, heading_widths}
use Rattle.tw_text.proofs.table.heading_widths.Given as goal

abbrev pub invariant-loop-column : goal.invariant-loop-column
invariant-loop-column l = l.widths.items ≡ heading_widths (layout_of (take l.column-index l.columns))
