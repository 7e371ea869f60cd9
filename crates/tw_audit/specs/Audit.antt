-- What an audit says over an honest link.
use Rattle.std.specs.Prelude.{◌≡◌, ℕ, List, length}
use Rattle.tw_model.specs.Ops.{TasksValue}
use Rattle.tw_protocol.specs.Chain.{Version}
use Rattle.tw_state.specs.State.{State, start_of}
use Rattle.tw_path.specs.Fold.{IsFold}
use Rattle.tw_audit.specs.Differences.{difference}
use Rattle.tw_audit.specs.declared.auditing.Audited.{Audited}

-- it compares the replica's tasks without what is pending with the chain folded to the replica's base
pub record IsAuditOf (state : State) (chain : List Version) (audit : Audited) : Type 0 where
  pub there : TasksValue
  pub fold : IsFold chain state.base there
  pub versions : audit.versions ≡ length fold.front
  pub compared : audit.difference ≡ difference (start_of state) there
