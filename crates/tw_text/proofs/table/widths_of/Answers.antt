use Rattle.std.proofs.Common.{◌≡◌, ◌<◌, length, get_or, map, take, sym, ap, subst, ◌∙◌}
use Rattle.tw_text.specs.Table.{layout_of, heading_widths, widened, widths_of, row_texts}
use Rattle.tw_text.proofs.Rows.{widths_of-append, one_more}
use Rattle.tw_text.proofs.table.widths_of.Goals as goal

pub loop-row-preserved : goal.loop-row-preserved
loop-row-preserved c =
    let start = heading_widths (layout_of c.args.columns.now) in
    let rows = c.args.rows.now.items in
    let i = c.loop-row.row-index in
    let row = c.row-item.result in
    let same = c.deref-row-items.ensures.value in
    let within : i < length rows = subst (λ xs. i < length xs) same c.loop-row-test.true in
    let is : row ≡ get_or rows i row = c.row-item.is ∙ ap (λ xs. get_or xs i row) same in
    c.widen.ensures
    ∙ ap (λ ws. widened ws (row_texts row)) c.loop-row.invariant
    ∙ sym (widths_of-append start (map row_texts (take i rows)) (row_texts row))
    ∙ ap (widths_of start) (sym (one_more row_texts rows i row within is))
