use Rattle.tw_path.proofs.Renewing.{if_ok, renews}
use Rattle.tw_path.proofs.walker.Walker.pending.Goals as goal

pub returns-clause-pending : goal.returns-clause-pending
returns-clause-pending c = if_ok c.pending_on.result _ _ (λ ops e. renews c.args.self.now ops.items e) c.pending_on.ensures.pending
