-- What a replica holds, and what its steps make of that.
use Rattle.std.specs.Prelude.{◌≡◌, ℕ, ◌+◌, Bool, true, false, cond, ◌&&◌, List, [], ◌∷◌, ◌++◌, Option, Some, None, is_none, is_some}
use Rattle.std.specs.FinMap.{get, empty}
use Rattle.uuid.specs.Parts.{zero_bytes}
use Rattle.tw_model.specs.Ops.{TasksValue, fits, apply, apply_all}
use Rattle.tw_model.specs.LocalOps.{is_task, has_value, fits_local, apply_local, apply_all_local, take_back, take_back_all}
use Rattle.tw_model.specs.declared.Op.{Op}
use Rattle.tw_model.specs.declared.Op.TheVariants.{Create, Delete, Update, UndoPoint}
use Rattle.tw_model.specs.declared.SyncOp.{SyncOp}
use Rattle.tw_bodies.specs.Body.{Step, is_undo_point}
use Rattle.tw_bodies.specs.Body.Step.{Commit, Undo, Sync, Carried, Partial, Checkpoint}
use Rattle.tw_bodies.specs.Reading.{step_of}
use Rattle.tw_fields.specs.Reading.{◌>>=◌}
use Rattle.tw_model.specs.Places.{Places}
pub use Rattle.tw_numbers.specs.Numbering.{packed_if, renewed}
use Rattle.tw_numbers.specs.Numbering.{assigned}
use Rattle.tw_numbers.specs.Assigned.{is_assigned}

pub record State : Type 0 where
  pub base : List ℕ
  pub pending : List Op
  pub tasks : TasksValue
  pub numbers : Places

-- nothing yet
abbrev pub start : State
start = record { base = zero_bytes; pending = []; tasks = empty; numbers = [] }

-- the number of the first operation, counted from n, that does not fit what those before it leave
abbrev pub misfit : ℕ → TasksValue → List Op → Option ℕ
misfit n tasks [] = None
misfit n tasks (op ∷ ops) = cond (fits_local tasks op) (misfit (n + 1) (apply_local tasks op) ops) (Some n)

-- the state with other pending operations and tasks, and the numbers assigned to these
abbrev pub moved_to : Bool → List Op → TasksValue → State → State
moved_to renumber pending tasks state = record { base = state.base; pending = pending; tasks = tasks; numbers = renewed renumber state.numbers tasks }

abbrev pub unless : Option ℕ → State → Option State
unless None state = Some state
unless (Some n) state = None

-- whether a commit has nothing to do
abbrev pub is_idle : Bool → List Op → Bool
is_idle true ops = false
is_idle false [] = true
is_idle false (op ∷ ops) = false

-- the state with operations applied and put after those that are pending
abbrev pub with_ops : Bool → List Op → State → State
with_ops renumber ops state = moved_to renumber (state.pending ++ ops) (apply_all_local state.tasks ops) state

-- the state after a commit, if its operations fit
abbrev pub committed : Bool → List Op → State → Option State
committed renumber ops state = cond (is_idle renumber ops) (Some state) (unless (misfit 0 state.tasks ops) (with_ops renumber ops state))

abbrev pub in_front : Op → List Op → Option (List Op × List Op) → Option (List Op × List Op)
in_front op ops (Some parts) = Some (op ∷ parts.0, parts.1)
in_front op ops None = cond (is_undo_point op) (Some ([], ops)) None

-- the operations before the last undo point, and those after it
abbrev pub split_group : List Op → Option (List Op × List Op)
split_group [] = None
split_group (op ∷ ops) = in_front op ops (split_group ops)

abbrev pub undone : State → Option State
undone state = split_group state.pending >>= λ parts. Some (moved_to false parts.0 (take_back_all state.tasks parts.1) state)

-- the tasks with pending taken back
abbrev pub start_of : State → TasksValue
start_of state = take_back_all state.tasks state.pending

-- the state at a version with these pending operations and tasks, and the numbers assigned to them
abbrev pub moved : List ℕ → List Op → TasksValue → State → State
moved base pending tasks state = record { base = base; pending = pending; tasks = tasks; numbers = assigned state.numbers tasks }

-- the same if nothing is pending
abbrev pub at_base : List ℕ → TasksValue → State → State
at_base base tasks state = moved base [] tasks state

-- the state after a sync: the operations of the versions follow on the tasks with pending taken back. One that does not fit is skipped
abbrev pub synced : List ℕ → List SyncOp → State → State
synced base ops state = at_base base (apply_all (start_of state) ops) state

-- the number of the first operation of versions, counted from n, that does not fit what those before it leave
abbrev pub misfit_synced : ℕ → TasksValue → List SyncOp → Option ℕ
misfit_synced n tasks [] = None
misfit_synced n tasks (op ∷ ops) = cond (fits tasks op) (misfit_synced (n + 1) (apply tasks op) ops) (Some n)

-- the state after a sync in place, if the operations that it carried fit the tasks at hand: they follow on these, and nothing is pending
abbrev pub carried : List ℕ → List SyncOp → State → Option State
carried base ops state = unless (misfit_synced 0 state.tasks ops) (at_base base (apply_all state.tasks ops) state)

-- whether there are no operations, or the first is an undo point
abbrev pub begins_with_point : List Op → Bool
begins_with_point [] = true
begins_with_point (op ∷ ops) = is_undo_point op

-- whether the tasks are some that an operation leaves
abbrev pub is_left_by : TasksValue → Op → Bool
is_left_by tasks (Create u) = is_task empty (get tasks u)
is_left_by tasks (Delete u before) = is_none (get tasks u)
is_left_by tasks (Update u p before after at) = has_value p after (get tasks u)
is_left_by tasks UndoPoint = true

-- the tasks before an operation that led to these, if it can have led there
abbrev pub before_one : Op → TasksValue → Option TasksValue
before_one op tasks = cond (is_left_by tasks op) (Some (take_back tasks op)) None

-- the tasks before operations that led to these, the last of them taken back first, if they can have led there
abbrev pub before_all : TasksValue → List Op → Option TasksValue
before_all tasks [] = Some tasks
before_all tasks (op ∷ ops) = before_all tasks ops >>= before_one op

-- whether operations may be pending on tasks: they begin with an undo point, fit some tasks, and lead from those to these
abbrev pub may_pend : TasksValue → List Op → Bool
may_pend tasks pending = begins_with_point pending && is_some (before_all tasks pending)

-- whether a state is sound, as it is tested
abbrev pub is_sound : State → Bool
is_sound state = may_pend state.tasks state.pending && is_assigned state.numbers state.tasks

-- the state after a sync that was cut short, if the operations that it carried fit the tasks at hand and these may be pending then
abbrev pub partly : List ℕ → List SyncOp → List Op → State → Option State
partly base ops pending state =
    cond (may_pend (apply_all state.tasks ops) pending) (unless (misfit_synced 0 state.tasks ops) (moved base pending (apply_all state.tasks ops) state)) None

-- the state with these places, whose pending operations are on these tasks
abbrev pub state_on : List ℕ → Places → TasksValue → List Op → State
state_on base places tasks pending = record { base = base; pending = pending; tasks = apply_all_local tasks pending; numbers = places }

-- whether it is sound: the pending operations begin with an undo point and fit, and the places are assigned to their tasks
abbrev pub is_sound_on : Places → TasksValue → List Op → Bool
is_sound_on places tasks pending = begins_with_point pending && (is_none (misfit 0 tasks pending) && is_assigned places (apply_all_local tasks pending))

-- whether pending operations begin with an undo point and fit the tasks
abbrev pub is_pending_on : TasksValue → List Op → Bool
is_pending_on tasks pending = begins_with_point pending && is_none (misfit 0 tasks pending)

-- the state that a checkpoint holds, if it is sound
abbrev pub restored : List ℕ → Places → TasksValue → List Op → Option State
restored base places tasks pending = cond (is_sound_on places tasks pending) (Some (state_on base places tasks pending)) None

abbrev pub applied : State → Step → Option State
applied state (Commit renumber ops) = committed renumber ops state
applied state Undo = undone state
applied state (Sync base ops) = Some (synced base ops state)
applied state (Carried base ops) = carried base ops state
applied state (Partial base ops pending) = partly base ops pending state
applied state (Checkpoint base places tasks pending) = restored base places tasks pending

-- the step that holds a whole state
abbrev pub checkpoint : State → Step
checkpoint state = Checkpoint state.base state.numbers (start_of state) state.pending

-- the state after the step of a body
abbrev pub stepped : State → List ℕ → Option State
stepped state body = step_of body >>= applied state

-- the state after the steps of bodies, the first of them first
abbrev pub replayed : State → List (List ℕ) → Option State
replayed state [] = Some state
replayed state (body ∷ bodies) = stepped state body >>= λ next. replayed next bodies

-- the state that records with these bodies lead to
abbrev pub Stands : List (List ℕ) → State → Type 0
Stands bodies state = replayed start bodies ≡ Some state
