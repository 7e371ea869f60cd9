-- Operations that commands add after a sync was refused, and what an undo leaves of them.
use Rattle.std.specs.Prelude.{◌≡◌, ℕ, Bool, true, is_some, List, ◌++◌, Some}
use Rattle.tw_model.specs.LocalOps.{plain}
use Rattle.tw_model.specs.declared.Op.{Op}
use Rattle.tw_model.specs.declared.SyncOp.{SyncOp}
use Rattle.tw_protocol.specs.Chain.{Version, Grows}
use Rattle.tw_state.specs.State.{State, committed, undone, split_group}
use Rattle.tw_state.specs.Sound.{IsSound, start_of}
use Rattle.tw_path.specs.Sent.{WasSent}
use Rattle.tw_outcome.specs.End.{starts_at}

-- the base and the tasks without what is pending stay, and these operations come after what was pending
pub record Follows (old new : State) (more : List Op) : Type 0 where
  pub base : new.base ≡ old.base
  pub start : start_of new ≡ start_of old
  pub pending : new.pending ≡ old.pending ++ more

-- a commit puts its operations after what follows already
abbrev pub CommitKeepsLaterOps : Type 0
CommitKeepsLaterOps = (old new after : State) (renumber : Bool) (more ops : List Op) → Follows old new more → committed renumber ops new ≡ Some after
    → Follows old after (more ++ ops)

-- an undo that does not reach into what was pending, since an undo point comes after it, leaves that and a part of what follows
abbrev pub UndoStaysBehind : Type 0
UndoStaysBehind = (old new after : State) (more : List Op) → IsSound new → Follows old new more → is_some (split_group more) ≡ true → undone new ≡ Some after
    → (left : List Op) × Follows old after left

-- what was sent up to a version is so for each replica that follows, whatever the chain has grown by since
abbrev pub SentForFollowing : Type 0
SentForFollowing = (old new : State) (chain now : List Version) (more : List Op) (mine later : List SyncOp) (w : List ℕ) → IsSound old → IsSound new
    → WasSent (starts_at old) chain mine later w → Grows chain now → Follows old new more → WasSent (starts_at new) now mine (later ++ plain more) w
