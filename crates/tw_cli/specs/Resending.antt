-- What a refused sync sent is not sent again, over the runs since.
use Rattle.std.specs.Prelude.{◌≡◌, Bool, List, ◌∷◌, ◌++◌, Some}
use Rattle.tw_model.specs.LocalOps.{plain}
use Rattle.tw_model.specs.declared.Op.{Op}
use Rattle.tw_model.specs.declared.SyncOp.{SyncOp}
use Rattle.tw_protocol.specs.Chain.{Version, Grows}
use Rattle.tw_state.specs.State.{State, committed}
use Rattle.tw_state.specs.Sound.{IsSound, start_of}
use Rattle.tw_path.specs.Path.{Leg}
use Rattle.tw_path.specs.Path.Leg.{Push}
use Rattle.tw_path.specs.Sent.{WasSent}
use Rattle.tw_outcome.specs.End.{ServerChain, Went, starts_at}

-- operations were appended to what is pending: the base and the tasks without what is pending stay
pub record HasAppended (old new : State) (later : List SyncOp) : Type 0 where
  pub base : new.base ≡ old.base
  pub start : start_of new ≡ start_of old
  pub pending : plain new.pending ≡ plain old.pending ++ later

-- A refused sync added a version, and operations were appended since: what it sent up to that version was sent, and a later sync sends
-- nothing of it again
abbrev pub AddedIsNotSentAgain : Type 0
AddedIsNotSentAgain = (old new : State) (before after : ServerChain) (chain : List Version) (legs more : List Leg) (v : Version) (ops appended : List SyncOp)
    → IsSound old → IsSound new → Went (starts_at old) before after (legs ++ Push v ops ∷ more) → Grows after.chain chain → HasAppended old new appended
    → (mine : List SyncOp) × (later : List SyncOp) × WasSent (starts_at new) chain mine (later ++ appended) v.id

-- a commit appends its operations
abbrev pub CommitAppends : Type 0
CommitAppends = (renumber : Bool) (ops : List Op) (old new : State) → committed renumber ops old ≡ Some new → HasAppended old new (plain ops)

-- what is appended twice is appended
abbrev pub AppendingGoesOn : Type 0
AppendingGoesOn = (a b c : State) (first second : List SyncOp) → HasAppended a b first → HasAppended b c second → HasAppended a c (first ++ second)
