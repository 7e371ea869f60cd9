use Rattle.std.proofs.Common.{sym, ap, ◌∙◌}
use Rattle.tw_model.specs.Maps.{set_at}
use Rattle.tw_model.proofs.Maps.{set_at_back}
use Rattle.tw_state.proofs.copies.copy_task.Goals as goal

pub returns-in-None : goal.returns-in-None
returns-in-None c = sym (set_at_back c.args.part.now c.args.uuid) ∙ ap (set_at c.args.part.now c.args.uuid) (c.requires ∙ c.in-None.ensures)
