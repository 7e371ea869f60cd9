use Rattle.std.proofs.Common.{◌∙◌, ◌++◌, ap, ℕ, List}
use Rattle.tw_model.specs.Ops.{TasksValue}
use Rattle.timew_bridge.specs.Active.{latest}
use Rattle.timew_bridge.specs.Candidates.{active_among}
use Rattle.timew_bridge.proofs.Enough.{enough}
use Rattle.timew_bridge.proofs.candidates.latest_among.Goals as goal

pub returns : goal.returns
returns c =
    c.latest.ensures
    ∙ ap (λ (t : TasksValue). latest t c.args.now)
    (c.in_ok-part.ensures ∙ ap (λ (us : List (List ℕ)). active_among c.args.tasks.now c.args.now (us ++ c.args.named.now.keys)) (c.deref.ensures.value ∙ c.requires.1.started))
    ∙ enough c.requires.0 c.args.tasks.now c.args.named.now.keys c.args.now c.requires.2
