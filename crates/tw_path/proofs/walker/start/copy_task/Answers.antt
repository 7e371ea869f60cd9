use Rattle.std.proofs.Common.{◌≡◌, ◌∙◌, None, ap, sym, rules}
use Rattle.std.specs.FinMap.{get}
use Rattle.tw_model.specs.Maps.{set_at}
use Rattle.tw_model.proofs.Maps.{set_at_back}
use Rattle.tw_path.proofs.walker.start.copy_task.Goals as goal

pub returns-in_default : goal.returns-in_default
returns-in_default c = λ none.
    let nothing : get c.args.tasks.now c.args.uuid ≡ None = search rules in
    sym (set_at_back c.args.part.now c.args.uuid) ∙ ap (set_at c.args.part.now c.args.uuid) (none ∙ sym nothing)
