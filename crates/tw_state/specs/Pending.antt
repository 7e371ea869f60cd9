-- How the pending operations of a replica begin.
use Rattle.std.specs.Prelude.{◌≡◌, List, ℕ, [], ◌∷◌}
use Rattle.tw_model.specs.declared.Op.{Op}
use Rattle.tw_model.specs.declared.Op.TheVariants.{UndoPoint}
use Rattle.tw_state.specs.State.{State, Stands}

-- there are no operations, or the first is an undo point
abbrev pub BeginsWithPoint : List Op → Type 0
BeginsWithPoint [] = Unit {0}
BeginsWithPoint (op ∷ ops) = op ≡ UndoPoint

-- so each pending operation is an undo point or comes after one, and undos can take all of them back
abbrev pub PendingBeginsWithPoint : Type 0
PendingBeginsWithPoint = (bodies : List (List ℕ)) (state : State) → Stands bodies state → BeginsWithPoint state.pending
