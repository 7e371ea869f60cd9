use Rattle.std.proofs.Common.{◌≡◌, ◌<◌, length, get_or, ap, subst, ◌∙◌}
use Rattle.std.specs.BTreeSet as set
use Rattle.tw_model.specs.Maps.{bytes_cmp}
use Rattle.tw_terms.proofs.ChosenUuids.{one_more_row}
use Rattle.tw_terms.proofs.chosen.chosen_of.Goals as goal

pub loop-uuid-preserved : goal.loop-uuid-preserved
loop-uuid-preserved c = λ u.
    let i = c.loop-uuid.uuid-index in
    let k = c.uuid-item.result in
    let rows = c.args.rows.now.items in
    let same = c.deref-uuid-items.ensures.value in
    let within : i < length rows = subst (λ xs. i < length xs) same c.loop-uuid-test.true in
    let is : k ≡ get_or rows i k = c.uuid-item.is ∙ ap (λ xs. get_or xs i k) same in
    c.in_ok-insert.ensures.updates.0 u ∙ one_more_row rows i k u (set.contains bytes_cmp c.loop-uuid.chosen u) within is (c.loop-uuid.invariant u)
