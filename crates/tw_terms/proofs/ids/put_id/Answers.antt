use Rattle.std.proofs.Common.{cond, Some, sym, ap, ◌∙◌}
use Rattle.std.specs.BTreeMap as tree
use Rattle.tw_model.specs.Maps.{bytes_cmp}
use Rattle.tw_model.specs.Places.{has_uuid}
use Rattle.tw_terms.proofs.IndexKeys.{same_key}
use Rattle.tw_terms.proofs.ids.put_id.Goals as goal

pub returns-in_ok-insert : goal.returns-in_ok-insert
returns-in_ok-insert c = λ u.
    let before = tree.get bytes_cmp c.args.ids.now u in
    c.in_ok-insert.ensures.updates.0 u
    ∙ ap (λ b. cond b (Some c.args.id) before) (same_key u c.in-Some.uuid)
    ∙ ap (λ place. cond (has_uuid u place) (Some c.args.id) before) (sym c.in-Some.is)
