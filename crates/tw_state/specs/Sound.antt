-- What holds of each state that records lead to.
use Rattle.std.specs.Prelude.{◌≡◌, ◌↔◌, List, ℕ, true, Some, None}
use Rattle.tw_model.specs.Ops.{TasksValue, FitAll}
use Rattle.tw_model.specs.LocalOps.{FitAllLocal, apply_all_local}
use Rattle.tw_model.specs.declared.Op.{Op}
use Rattle.tw_model.specs.declared.SyncOp.{SyncOp}
use Rattle.tw_state.specs.Pending.{BeginsWithPoint}
use Rattle.tw_numbers.specs.Assigned.{IsAssignedIn}
use Rattle.tw_state.specs.State.{State, Stands, split_group, undone, applied, checkpoint, misfit_synced, may_pend, is_sound}
pub use Rattle.tw_state.specs.State.{start_of}

-- the pending operations begin with an undo point, fit what was before them and lead to the tasks.
-- Each open task has one place, and no other has any
pub record IsSound (state : State) : Type 0 where
  pub begins : BeginsWithPoint state.pending
  pub fits : FitAllLocal (start_of state) state.pending
  pub tasks : state.tasks ≡ apply_all_local (start_of state) state.pending
  pub assigned : IsAssignedIn state.numbers state.tasks

-- soundness is what is tested
abbrev pub SoundIsTested : Type 0
SoundIsTested = (state : State) → (is_sound state ≡ true) ↔ IsSound state

-- operations that begin with an undo point, fit some tasks and lead from them to others may be pending on these
abbrev pub LeadingMayPend : Type 0
LeadingMayPend = (start tasks : TasksValue) (pending : List Op) → BeginsWithPoint pending → FitAllLocal start pending
    → tasks ≡ apply_all_local start pending → may_pend tasks pending ≡ true

-- operations of versions that fit the tasks at hand may be carried
abbrev pub FittingMayBeCarried : Type 0
FittingMayBeCarried = (tasks : TasksValue) (ops : List SyncOp) → FitAll tasks ops → misfit_synced 0 tasks ops ≡ None

-- a sound state is what its checkpoint leads to, whatever was there before
abbrev pub CheckpointLeads : Type 0
CheckpointLeads = (before state : State) → IsSound state → applied before (checkpoint state) ≡ Some state

abbrev pub StandsIsSound : Type 0
StandsIsSound = (bodies : List (List ℕ)) (state : State) → Stands bodies state → IsSound state

-- an undo leads to what the operations before the last undo point make of the start
pub record IsUndone (old new : State) : Type 0 where
  pub base : new.base ≡ old.base
  pub group : List Op
  pub split : split_group old.pending ≡ Some (new.pending, group)
  pub start : start_of new ≡ start_of old
  pub tasks : new.tasks ≡ apply_all_local (start_of old) new.pending

abbrev pub UndoLeadsBack : Type 0
UndoLeadsBack = (old new : State) → IsSound old → undone old ≡ Some new → IsUndone old new
