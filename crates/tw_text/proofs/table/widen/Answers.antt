use Rattle.std.proofs.Common.{◌≤◌, string_bytes, length, sym, ◌∙◌, arith}
use Rattle.tw_text.proofs.Rows.{widened_over}
use Rattle.tw_text.proofs.table.widen.Goals as goal

pub returns-else-n-len : goal.returns-else-n-len
returns-else-n-len c =
    let over : length c.args.cells.now.items ≤ c.loop-n.n = omega arith in
    sym (widened_over string_bytes c.loop-n.widths.items c.loop-n.n c.args.cells.now.items over) ∙ c.loop-n.invariant
