use Rattle.std.proofs.Common.{is_some, ap, ◌∙◌}
use Rattle.std.specs.FinMap.{get}
use Rattle.tw_model.proofs.Trees.{lookup-get}
use Rattle.tw_model.proofs.task_draft.TaskDraft.has.Goals as goal

pub returns : goal.returns
returns c = c.contains_key.ensures ∙ ap is_some (lookup-get c.args.name.now c.self.inside.entries.entries c.self.invariant) ∙ ap (λ m. is_some (get m c.args.name.now)) c.self.view_is
