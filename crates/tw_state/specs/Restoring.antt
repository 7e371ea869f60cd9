-- Taking the pending operations of a whole state, those of one command at a time.
use Rattle.std.specs.Prelude.{◌≡◌, ◌⊎◌, ◌≤◌, ◌+◌, ◌==◌, ℕ, Bool, true, false, List, [], ◌∷◌, length, drop, Option, Some, None}
use Rattle.tw_model.specs.Ops.{TasksValue}
use Rattle.tw_model.specs.LocalOps.{apply_all_local}
use Rattle.tw_model.specs.Places.{Places}
use Rattle.tw_model.specs.declared.Op.{Op}
use Rattle.tw_bodies.specs.Body.{has_no_point}
use Rattle.tw_bodies.specs.Reading.{op_at, checkpoint_in}
use Rattle.tw_fields.specs.Reading.{◌>>=◌, many_at, with_front}
use Rattle.tw_state.specs.State.{State, misfit, applied, begins_with_point, is_pending_on}

-- whether bytes begin with those of an undo point
abbrev pub begins_a_command : List ℕ → Bool
begins_a_command [] = false
begins_a_command (b ∷ bytes) = b == 4

-- of so many operations these were read: one, and those after it up to an undo point or the end. So many are left in the bytes after them
pub record ReadsCommand (count : ℕ) (bytes : List ℕ) (ops : List Op) (left : ℕ) (rest : List ℕ) : Type 0 where
  pub read : with_front ops (many_at op_at left rest) ≡ many_at op_at count bytes
  pub first : begins_with_point ops ≡ begins_a_command bytes
  pub others : has_no_point (drop 1 ops) ≡ true
  pub next : (left ≡ 0) ⊎ (begins_a_command rest ≡ true)
  pub sum : length ops + left ≡ count
  pub some : 1 ≤ length ops

-- the bytes are so many operations, which begin with an undo point and fit; they were applied and are pending
pub record TakesAll (count : ℕ) (bytes : List ℕ) (old new : TasksValue) (pending : List Op) : Type 0 where
  pub read : many_at op_at count bytes ≡ Some (pending, [])
  pub begins : begins_with_point pending ≡ true
  pub fits : misfit 0 old pending ≡ None
  pub tasks : new ≡ apply_all_local old pending

-- they were, or the bytes are no such operations
abbrev pub TakesPending : Bool → (count : ℕ) (bytes : List ℕ) (old new : TasksValue) (pending : List Op) → Type 0
TakesPending true count bytes old new pending = TakesAll count bytes old new pending
TakesPending false count bytes old new pending = (ops : List Op) → many_at op_at count bytes ≡ Some (ops, []) → is_pending_on old ops ≡ false

-- the state that a whole state leads to whose pending operations are so many in these bytes, if they are and it is sound
abbrev pub restored_by : (base : List ℕ) (places : Places) (tasks : TasksValue) (count : ℕ) (bytes : List ℕ) → State → Option State
restored_by base places tasks count bytes state = checkpoint_in base places tasks count bytes >>= applied state
