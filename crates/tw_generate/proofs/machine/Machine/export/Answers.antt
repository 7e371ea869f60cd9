use Rattle.std.proofs.Common.{◌≡◌, IfOk, ℕ, List, subst}
use Rattle.tw_export.specs.Export.{export_text}
use Rattle.tw_replica.specs.Replica.{held_state}
use Rattle.tw_generate.specs.Generated.{exported}
use Rattle.tw_generate.proofs.Exports.{of_all}
use Rattle.tw_generate.proofs.machine.Machine.export.Goals as goal

pub returns : goal.returns
returns c =
    let same : export_text c.in_ok-rows.rows.items c.tasks-tasks.result.now c.args.at.seconds c.args.weights.now ≡ exported (held_state c.args.self.now.replica) c.args.at.seconds c.args.weights.now =
    of_all c.in_ok-rows.rows.items c.tasks-tasks.result.now c.args.self.now.replica.core.tasks c.args.at.seconds c.args.weights.now c.in_ok-rows.ensures c.tasks-tasks.ensures in
    subst (λ (all : List ℕ). IfOk c.export_text.result (λ text. text.items ≡ all)) same c.export_text.ensures
