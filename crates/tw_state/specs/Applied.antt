-- Operations of versions, applied as they are read.
use Rattle.std.specs.Prelude.{◌≡◌, ℕ, Bool, true, false, ◌||◌, List, [], Option, Some, None}
use Rattle.tw_model.specs.Ops.{TasksValue, apply_all}
use Rattle.tw_model.specs.declared.SyncOp.{SyncOp}
use Rattle.tw_bodies.specs.Reading.{sync_op_at, sync_in, carried_in, partial_in}
use Rattle.tw_fields.specs.Reading.{◌>>=◌, many_at}
use Rattle.tw_numbers.specs.Assigned.{is_among}
use Rattle.tw_state.specs.Touched.{is_touched_by_synced}
use Rattle.tw_state.specs.State.{State, misfit_synced, applied}

-- the bytes are so many operations, which were applied, and the uuids of their tasks are beside those before
pub record AppliesAll (count : ℕ) (bytes : List ℕ) (old new : TasksValue) (before after : List (List ℕ)) : Type 0 where
  pub ops : List SyncOp
  pub read : many_at sync_op_at count bytes ≡ Some (ops, [])
  pub tasks : new ≡ apply_all old ops
  pub touched : (u : List ℕ) → is_among after u ≡ (is_among before u || is_touched_by_synced ops u)

-- they were, or the bytes are no such operations
abbrev pub AppliesRead : Bool → (count : ℕ) (bytes : List ℕ) (old new : TasksValue) (before after : List (List ℕ)) → Type 0
AppliesRead true count bytes old new before after = AppliesAll count bytes old new before after
AppliesRead false count bytes old new before after = (base : List ℕ) → sync_in base count bytes ≡ None

-- the state after a sync that leads to this version, by so many operations, if the bytes are those
abbrev pub synced_by : (base : List ℕ) (count : ℕ) (bytes : List ℕ) → State → Option State
synced_by base count bytes state = sync_in base count bytes >>= applied state

-- the bytes begin with so many operations, all of which fit and were applied, and the uuids of their tasks are beside those before
pub record FitsAll (count : ℕ) (bytes rest : List ℕ) (old new : TasksValue) (before after : List (List ℕ)) : Type 0 where
  pub ops : List SyncOp
  pub read : many_at sync_op_at count bytes ≡ Some (ops, rest)
  pub fits : misfit_synced 0 old ops ≡ None
  pub tasks : new ≡ apply_all old ops
  pub touched : (u : List ℕ) → is_among after u ≡ (is_among before u || is_touched_by_synced ops u)

-- the bytes do not begin with so many operations that all fit
abbrev pub NoneFit : (count : ℕ) (bytes : List ℕ) (tasks : TasksValue) → Type 0
NoneFit count bytes tasks = (ops : List SyncOp) (rest : List ℕ) → many_at sync_op_at count bytes ≡ Some (ops, rest) → misfit_synced 0 tasks ops ≡ None → ⊥

-- they do, and these bytes come after them, or they do not
abbrev pub AppliesFitting : Option (List ℕ) → (count : ℕ) (bytes : List ℕ) (old new : TasksValue) (before after : List (List ℕ)) → Type 0
AppliesFitting (Some rest) count bytes old new before after = FitsAll count bytes rest old new before after
AppliesFitting None count bytes old new before after = NoneFit count bytes old

-- the state after a sync in place that leads to this version, by so many operations, if the bytes are those and they fit
abbrev pub carried_by : (base : List ℕ) (count : ℕ) (bytes : List ℕ) → State → Option State
carried_by base count bytes state = carried_in base count bytes >>= applied state

-- the state after a sync that was cut short at this version, if the bytes are so many operations, which fit, and what may be pending then
abbrev pub partly_by : (base : List ℕ) (count : ℕ) (bytes : List ℕ) → State → Option State
partly_by base count bytes state = partial_in base count bytes >>= applied state
