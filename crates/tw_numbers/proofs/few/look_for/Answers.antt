use Rattle.std.proofs.Common.{◌∙◌, ap, sym, cond}
use Rattle.std.specs.BTreeSet.{insert_key}
use Rattle.tw_numbers.specs.Numbering.{is_open, rank, rank_cmp}
use Rattle.tw_numbers.proofs.FoundByScan.{scanned_unplaced, both_true, second_false}
use Rattle.tw_numbers.proofs.few.look_for.Goals as goal

pub returns-in_ok-insert-clause-ranks : goal.returns-in_ok-insert-clause-ranks
returns-in_ok-insert-clause-ranks c =
    let found = scanned_unplaced c.args.places.now.items c.args.tasks.now c.args.uuid c.is_open.result c.is_none.result c.place_of.result (c.is_open.ensures ∙ ap is_open c.get-task.ensures) c.place_of.ensures.found c.place_of.ensures.none c.is_none.ensures in
    c.in_ok-insert.ensures.keys ∙ ap (λ r. insert_key rank_cmp c.args.ranks.now.keys r) (c.rank.ensures c.args.tasks.now c.get-task.ensures)
    ∙ ap (λ b. cond b (insert_key rank_cmp c.args.ranks.now.keys (rank c.args.tasks.now c.args.uuid)) c.args.ranks.now.keys) (sym (found ∙ both_true c.is_open.result c.is_none.result c.if-not-is_open.false c.if-is_none.true))

pub returns-else-is_none-clause-ranks : goal.returns-else-is_none-clause-ranks
returns-else-is_none-clause-ranks c =
    let found = scanned_unplaced c.args.places.now.items c.args.tasks.now c.args.uuid c.is_open.result c.is_none.result c.place_of.result (c.is_open.ensures ∙ ap is_open c.get-task.ensures) c.place_of.ensures.found c.place_of.ensures.none c.is_none.ensures in
    ap (λ b. cond b (insert_key rank_cmp c.args.ranks.now.keys (rank c.args.tasks.now c.args.uuid)) c.args.ranks.now.keys) (sym (found ∙ second_false c.is_open.result c.is_none.result c.if-is_none.false))
