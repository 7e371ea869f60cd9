use Rattle.std.proofs.Common.{◌∙◌, sym, ap}
use Rattle.tw_bodies.specs.Reading.{step_of}
use Rattle.tw_bodies.specs.Views.{step_view}
use Rattle.tw_state.proofs.PendingBodies.{commit_holds}
use Rattle.tw_state.proofs.indexed.Indexed.step.Goals as goal

pub commit-requires-clause-body : goal.commit-requires-clause-body
commit-requires-clause-body c = commit_holds c.args.body.items c.in-Ok-Commit.renumber c.in-Ok-Commit.ops.items (ap step_of (sym c.deref.ensures.value) ∙ c.in-Ok-Commit.ensures ∙ ap step_view c.in-Ok-Commit.field-0-is)
