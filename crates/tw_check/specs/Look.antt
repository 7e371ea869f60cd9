-- What is told of a file of tasks: what the state holds that it opens to.
use Rattle.std.specs.Prelude.{◌≡◌, ℕ, List, [], ◌∷◌, length, Option, None, Some, option_map}
use Rattle.std.specs.FinMap as map
use Rattle.sha1.specs.Sha1.{sha1}
use Rattle.tw_world.specs.declared.moment.Moment.{Moment}
use Rattle.tw_model.specs.Ops.{TasksValue}
use Rattle.tw_model.specs.declared.Op.{Op}
use Rattle.tw_model.specs.declared.Op.TheVariants.{Create, Delete, Update, UndoPoint}
use Rattle.tw_snapshot.specs.Snapshot.{text_within}
use Rattle.tw_state.specs.State.{State, start_of}
use Rattle.tw_replica.specs.Replica.{OpensTo}
use Rattle.tw_check.specs.declared.holding.Held.{Held}

-- the digest of tasks is that of their one text, unless this is too long
abbrev pub digest_of : TasksValue → Option (List ℕ)
digest_of tasks = option_map sha1 (text_within tasks)

-- the moment of an update, or else that of the last one before it
abbrev pub update_in : Option Moment → Op → Option Moment
update_in before (Create u) = before
update_in before (Delete u task) = before
update_in before (Update u p old new at) = Some at
update_in before UndoPoint = before

-- the moment of the last update among operations, or else of the last one before them
abbrev pub update_after : Option Moment → List Op → Option Moment
update_after before [] = before
update_after before (op ∷ ops) = update_after (update_in before op) ops

abbrev pub last_update : List Op → Option Moment
last_update ops = update_after None ops

-- what is told of a state
pub record IsHeldBy (state : State) (held : Held) : Type 0 where
  pub tasks : held.tasks ≡ map.len state.tasks
  pub base : held.base ≡ state.base
  pub pending : held.pending ≡ length state.pending
  pub changed : held.changed ≡ last_update state.pending
  pub digest : held.digest ≡ digest_of (start_of state)

-- the file opens to a state of which this is told
abbrev pub IsHeld : List ℕ → Held → Type 0
IsHeld file held = (state : State) × OpensTo file state × IsHeldBy state held

-- a file opens to one state at most, so what is told of it is told of each state that it opens to
abbrev pub OpensToOneState : Type 0
OpensToOneState = (file : List ℕ) (a b : State) → OpensTo file a → OpensTo file b → a ≡ b
