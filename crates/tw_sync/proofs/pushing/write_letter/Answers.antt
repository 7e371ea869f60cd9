use Rattle.std.proofs.Common.{◌∙◌, List, ap, sym}
use Rattle.tw_groups.specs.Groups.{Groups}
use Rattle.tw_model.specs.declared.SyncOp.{SyncOp}
use Rattle.tw_sync.proofs.pushing.write_letter.Goals as goal

-- what is sent is what is first
pub returns-clause-ops : goal.returns-clause-ops
returns-clause-ops c = c.in-Ok-sent.ensures ∙ sym (ap (λ (x : List SyncOp × Groups). x.0) c.in-Ok.ensures)
