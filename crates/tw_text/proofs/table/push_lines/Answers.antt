use Rattle.std.proofs.Common.{◌≡◌, ◌<◌, ◌++◌, ◌∷◌, [], length, get_or, map, take, sym, ap, subst, ◌∙◌, append_assoc}
use Rattle.tw_text.specs.Table.{layout_of, lines, line, row_texts}
use Rattle.tw_text.proofs.Rows.{lines-append, one_more}
use Rattle.tw_text.proofs.table.push_lines.Goals as goal

pub loop-row-preserved : goal.loop-row-preserved
loop-row-preserved c =
    let ks = layout_of c.args.columns.now in
    let ws = c.args.widths.now in
    let rows = c.args.rows.now.items in
    let i = c.loop-row.row-index in
    let row = c.row-item.result in
    let same = c.deref-row-items.ensures.value in
    let within : i < length rows = subst (λ xs. i < length xs) same c.loop-row-test.true in
    let is : row ≡ get_or rows i row = c.row-item.is ∙ ap (λ xs. get_or xs i row) same in
    let more = one_more row_texts rows i row within is in
    let slice = ap (λ cells. line ks ws (map Rattle.std.proofs.Common.string_bytes cells)) c.as_slice.ensures.value in
    let front = map row_texts (take i rows) in
    c.in_ok-push_line.ensures
    ∙ (λ n. c.loop-row.invariant n ++ slice n)
    ∙ append_assoc c.args.text.now.items (lines ks ws front) (line ks ws (row_texts row))
    ∙ ap (λ t. c.args.text.now.items ++ t) (sym (lines-append ks ws front (row_texts row)) ∙ ap (lines ks ws) (sym more))
