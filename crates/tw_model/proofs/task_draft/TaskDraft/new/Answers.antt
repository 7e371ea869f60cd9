use Rattle.std.proofs.Common.{ap, ◌∙◌}
use Rattle.std.specs.FinMap.{from_sorted}
use Rattle.tw_model.specs.Maps.{bytes_cmp}
use Rattle.tw_model.proofs.Maps.{from_sorted-none}
use Rattle.tw_model.proofs.task_draft.TaskDraft.new.Goals as goal

pub returns : goal.returns
returns c = ap (from_sorted {R = bytes_cmp}) c.new.ensures.empty ∙ from_sorted-none
