use Rattle.std.proofs.Common.{ap, ◌∙◌}
use Rattle.std.specs.FinMap.{from_sorted}
use Rattle.tw_model.proofs.Maps.{from_sorted-none}
use Rattle.tw_model.proofs.task_map.TaskMap.with_room.Goals as goal

pub returns : goal.returns
returns c = ap from_sorted c.in_ok-with_capacity.ensures.items ∙ from_sorted-none
