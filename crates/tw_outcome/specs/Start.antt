-- Where the path of a sync starts: at the base of the replica, or at a snapshot (TaskChampion book, "Snapshots").
use Rattle.std.specs.Prelude.{◌≡◌, ◌⊎◌, ℕ, List, []}
use Rattle.uuid.specs.Parts.{zero_bytes}
use Rattle.tw_model.specs.Ops.{TasksValue}
use Rattle.tw_protocol.specs.Chain.{Version}
use Rattle.tw_state.specs.State.{State}
use Rattle.tw_path.specs.Fold.{IsFold}
use Rattle.tw_path.specs.Path.{Reached}
use Rattle.tw_path.specs.Walk.{before_pending}

-- where the path of a replica starts: at its base, where all that is pending is left
abbrev pub starts_at : State → Reached
starts_at state = before_pending state.base state.tasks state.pending

-- where a path starts that goes from the tasks of a version
abbrev pub at_snapshot : (version : List ℕ) → TasksValue → Reached
at_snapshot version tasks = record { at = version; tasks = tasks; left = []; carried = [] }

-- a new replica: it has no version yet, and nothing pending
pub record IsNewReplica (state : State) : Type 0 where
  pub nil : state.base ≡ zero_bytes
  pub nothing : state.pending ≡ []

-- a path that a new replica may go, from the tasks of a snapshot
pub record FromSnapshot (state : State) (start : Reached) : Type 0 where
  pub fresh : IsNewReplica state
  pub version : List ℕ
  pub tasks : TasksValue
  pub is : start ≡ at_snapshot version tasks

-- where the path of a sync may start
abbrev pub Starts : State → Reached → Type 0
Starts state start = (start ≡ starts_at state) ⊎ FromSnapshot state start

-- it starts at the replica's base, or at a snapshot that is the chain folded to its version
abbrev pub StartsSoundly : List Version → State → Reached → Type 0
StartsSoundly chain state start = (start ≡ starts_at state) ⊎ (FromSnapshot state start × IsFold chain start.at start.tasks)
