-- What becomes of what is left at a cursor.
use Rattle.std.specs.Prelude.{◌≡◌, ℕ, ◌+◌, ◌<◌, ◌≤◌, List, length}
use Rattle.tw_model.specs.declared.SyncOp.{SyncOp}
use Rattle.tw_http.specs.Link.{LinkModel}
use Rattle.tw_segment.specs.Segment.{max_len, segment_text}
use Rattle.tw_state.specs.State.{State}
use Rattle.tw_sync.specs.Way.Progress.{HasPulled, IsLate}
use Rattle.tw_sync.specs.declared.pushing.Sent.{Sent}
use Rattle.tw_sync.specs.declared.pushing.Sent.TheVariants.{Added, Late}
use Rattle.tw_sync.specs.declared.cursor.Cursor.{Cursor}
use Rattle.tw_sync.specs.declared.error.SendError.{SendError}
use Rattle.tw_sync.specs.declared.error.SendError.TheVariants as sending

-- why operations are not sent
abbrev pub IsUnsent : List SyncOp → SendError → Type 0
IsUnsent ops (sending.TooLong bytes) = (bytes ≡ length (segment_text ops)) × (max_len < bytes)
IsUnsent ops sending.Memory = Unit {0}

-- the sync is again at the end of the chain if what was sent is added, and pulls if it came too late
abbrev pub Pushes : {L : Type 0} → Sent → LinkModel L → (client host : List ℕ) → State → (first now : L) → Cursor → Type 0
Pushes Added m client host state first now cursor = HasPulled m client host state first now cursor
Pushes (Late latest) m client host state first now cursor = IsLate m client host state first now cursor latest

-- what was sent is counted, or a conflict is
abbrev pub CountsSent : Sent → (old new : Cursor) → Type 0
CountsSent Added old new = (new.conflicts ≡ old.conflicts) × (1 ≤ old.unsent → new.unsent < old.unsent)
CountsSent (Late latest) old new = (new.conflicts ≡ old.conflicts + 1) × (new.unsent ≡ old.unsent)

-- what becomes of each sync that has pulled all, whichever state and link it began at
abbrev pub SendsLeft : {L : Type 0} → LinkModel L → (client host : List ℕ) → (before : L) → Cursor → (after : L) → Cursor → Sent → Type 0
SendsLeft {L = L} m client host before cursor after moved sent = (state : State) (first : L) → HasPulled m client host state first before cursor
    → Pushes sent m client host state first after moved
