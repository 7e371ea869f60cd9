use Rattle.std.proofs.Common.{sym, ap, ◌∙◌, arith}
use Rattle.std.specs.FinMap.{len}
use Rattle.tw_model.proofs.Sorted.{len-from_sorted}
use Rattle.tw_model.proofs.task_draft.TaskDraft.len.Goals as goal

pub returns : goal.returns
returns c = (omega arith) ∙ sym (len-from_sorted c.self.inside.entries.entries c.self.invariant) ∙ ap len c.self.view_is
