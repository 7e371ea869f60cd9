use Rattle.std.proofs.Common.{Some}
use Rattle.tw_model.proofs.Trees.{ordered_sorted, updated}
use Rattle.tw_model.proofs.task_draft.put_entry.Goals as goal

pub returns-clause-sorted : goal.returns-clause-sorted
returns-clause-sorted c = ordered_sorted _ c.in_ok-insert.ensures.ordered

pub returns-clause-ok : goal.returns-clause-ok
returns-clause-ok c = updated c.args.entries.now.entries c.insert.new.self.entries c.args.key (Some c.args.value) c.requires (ordered_sorted _ c.in_ok-insert.ensures.ordered) c.in_ok-insert.ensures.updates.0
