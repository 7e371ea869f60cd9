use Rattle.std.proofs.Common.{◌∙◌, ap, sym, cond}
use Rattle.std.specs.BTreeSet.{insert_key}
use Rattle.tw_numbers.specs.Numbering.{is_open, rank, rank_cmp}
use Rattle.tw_numbers.proofs.VacatedPlaces.{found_unplaced, is_free, is_held}
use Rattle.tw_numbers.proofs.indexed.look_at.Goals as goal

pub returns-in_ok-insert-clause-ranks : goal.returns-in_ok-insert-clause-ranks
returns-in_ok-insert-clause-ranks c =
    let found = found_unplaced c.args.places.now.items c.args.index.now c.args.tasks.now c.args.uuid c.is_open.result c.has_place.result c.requires (c.is_open.ensures ∙ ap is_open c.get-task.ensures) c.has_place.ensures in
    c.in_ok-insert.ensures.keys ∙ ap (λ r. insert_key rank_cmp c.args.ranks.now.keys r) (c.rank.ensures c.args.tasks.now c.get-task.ensures)
    ∙ ap (λ b. cond b (insert_key rank_cmp c.args.ranks.now.keys (rank c.args.tasks.now c.args.uuid)) c.args.ranks.now.keys) (sym (found ∙ is_free c.is_open.result c.has_place.result c.if-not-is_open.false c.if-not-has_place.true))

pub returns-else-not-has_place-clause-ranks : goal.returns-else-not-has_place-clause-ranks
returns-else-not-has_place-clause-ranks c =
    let found = found_unplaced c.args.places.now.items c.args.index.now c.args.tasks.now c.args.uuid c.is_open.result c.has_place.result c.requires (c.is_open.ensures ∙ ap is_open c.get-task.ensures) c.has_place.ensures in
    ap (λ b. cond b (insert_key rank_cmp c.args.ranks.now.keys (rank c.args.tasks.now c.args.uuid)) c.args.ranks.now.keys) (sym (found ∙ is_held c.is_open.result c.has_place.result c.if-not-is_open.false c.if-not-has_place.false))
