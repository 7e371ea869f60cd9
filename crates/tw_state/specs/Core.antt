-- The state that the code holds.
use Rattle.std.specs.Prelude.{◌≡◌, ℕ, Bool, true, false, List, Option, Some, None}
use Rattle.tw_numbers.specs.Assigned.{Renews}
use Rattle.tw_state.specs.State.{State}
use Rattle.tw_state.specs.declared.state.Core.{Core}

abbrev pub state_of : Core → State
state_of core = record { base = core.base; pending = core.pending; tasks = core.tasks; numbers = core.numbers.items }

-- a step led to this state, or there is no such step
abbrev pub StepIs : Bool → Option State → State → Type 0
StepIs true next state = next ≡ Some state
StepIs false next state = next ≡ None

-- the step led from what was held to what is held now, or there is no such step
abbrev pub StepsTo : Bool → (State → Option State) → (old new : Core) → Type 0
StepsTo done step old new = StepIs done (step (state_of old)) (state_of new)

-- the places of what is held become those of its tasks, once those of these uuids have changed
abbrev pub RenewsNumbers : Bool → (old new : Core) → List (List ℕ) → Type 0
RenewsNumbers renumber old new us = Renews renumber old.numbers.items new.numbers.items old.tasks us
