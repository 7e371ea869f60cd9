use Rattle.std.proofs.Common.{cond, true, false, sym, ap, ◌∙◌}
use Rattle.std.specs.BTreeSet as set
use Rattle.tw_model.specs.Maps.{bytes_cmp}
use Rattle.tw_model.specs.Places.{has_uuid}
use Rattle.tw_filter.proofs.NamedTasks.{same_key}
use Rattle.tw_filter.proofs.named_tasks.take_place.Goals as goal

pub returns-in_ok-insert : goal.returns-in_ok-insert
returns-in_ok-insert c = λ u.
    let before = set.contains bytes_cmp c.args.uuids.now u in
    c.in_ok-insert.ensures.updates.0 u
    ∙ ap (λ b. cond b true before) (same_key u c.in-Some.uuid)
    ∙ (λ i. cond (has_uuid u (sym c.in-Some.is i)) (sym c.if-is_named.true i) before)

pub returns-else-is_named : goal.returns-else-is_named
returns-else-is_named c = λ u.
    let before = set.contains bytes_cmp c.args.uuids.now u in
    c.remove.ensures.updates.0 u
    ∙ ap (λ b. cond b false before) (same_key u c.in-Some.uuid)
    ∙ (λ i. cond (has_uuid u (sym c.in-Some.is i)) (sym c.if-is_named.false i) before)
