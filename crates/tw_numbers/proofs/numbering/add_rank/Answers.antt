use Rattle.std.proofs.Common.{◌∙◌, ap, sym, cond}
use Rattle.std.specs.BTreeSet.{insert_key}
use Rattle.tw_numbers.specs.Numbering.{rank, rank_cmp}
use Rattle.tw_numbers.proofs.numbering.add_rank.Goals as goal

pub returns-in_ok-insert : goal.returns-in_ok-insert
returns-in_ok-insert c = λ places same.
    c.in_ok-insert.ensures.keys ∙ ap (λ r. insert_key rank_cmp c.args.ranks.now.keys r) (c.rank.ensures c.args.tasks.now c.get-task.ensures)
    ∙ ap (λ b. cond b (insert_key rank_cmp c.args.ranks.now.keys (rank c.args.tasks.now c.args.uuid)) c.args.ranks.now.keys) (sym c.if-is_unplaced.true ∙ c.is_unplaced.ensures places c.args.tasks.now same c.get-task.ensures)

pub returns-else-is_unplaced : goal.returns-else-is_unplaced
returns-else-is_unplaced c = λ places same. ap (λ b. cond b (insert_key rank_cmp c.args.ranks.now.keys (rank c.args.tasks.now c.args.uuid)) c.args.ranks.now.keys) (sym c.if-is_unplaced.false ∙ c.is_unplaced.ensures places c.args.tasks.now same c.get-task.ensures)
