-- What the steps of a replica that stay on its machine do to its agreement with a chain.
use Rattle.std.specs.Prelude.{◌≡◌, Bool, true, List, Some}
use Rattle.tw_model.specs.declared.Op.{Op}
use Rattle.tw_protocol.specs.Chain.{Version}
use Rattle.tw_bodies.specs.Body.{is_group}
use Rattle.tw_state.specs.State.{State, committed, undone}
use Rattle.tw_outcome.specs.Agreement.{Agrees}

-- a commit of a group keeps agreement
abbrev pub CommitAgrees : Type 0
CommitAgrees = (renumber : Bool) (ops : List Op) (old new : State) (chain : List Version) → is_group ops ≡ true → Agrees old chain
    → committed renumber ops old ≡ Some new → Agrees new chain

-- an undo keeps agreement
abbrev pub UndoAgrees : Type 0
UndoAgrees = (old new : State) (chain : List Version) → Agrees old chain → undone old ≡ Some new → Agrees new chain
