-- What opening a replica leaves of its records.
use Rattle.std.specs.Prelude.{◌≡◌, ◌⊎◌, ◌≤◌, ◌+◌, ◌^◌, ◌&&◌, ℕ, Bool, true, false, not, cond, nat_le, nat_eq, List, [], ◌∷◌, length}
use Rattle.tw_world.specs.Disk.{DiskModel, LeavesOnly, Rose}
use Rattle.tw_journal.specs.Form.{Records, has_areas}
use Rattle.tw_journal.specs.Open.{IsImageThen}
use Rattle.tw_bodies.specs.Body.{body_of}
use Rattle.tw_state.specs.State.{State, Stands, checkpoint}
use Rattle.tw_replica.specs.declared.open.shorten.ShorteningError.{ShorteningError}
use Rattle.tw_replica.specs.declared.open.shorten.ShorteningError.TheVariants.{Disk, Memory}
use Rattle.tw_replica.specs.declared.open.renew.RenewingError.{RenewingError}
use Rattle.tw_replica.specs.declared.open.renew.RenewingError.TheVariants as renewings
use Rattle.tw_replica.specs.declared.error.OpenError.{OpenError}
use Rattle.tw_replica.specs.declared.error.OpenError.TheVariants as opens
use Rattle.tw_replica.specs.declared.replica.Replica.{Replica}
use Rattle.tw_replica.specs.Replica.{magic, is_old_row, OpensTo, IsReplicaOn, RecordsAfter, IsStateTooLong, held_state}
use Rattle.tw_journal.specs.declared.journal.Journal.{Journal}
use Rattle.tw_journal.specs.Journal.{IsOpenOn, can_checkpoint, is_closed, journal_count, journal_end, journal_version}

-- whether opening replaces many records: the file has areas, there are at least 1,000 of them, and the one in their place is not above the limit.
-- Its body has so many bytes
abbrev pub is_due : Bool → ℕ → ℕ → Bool
is_due areas count size = areas && (nat_le 1000 count && nat_le (size + 5) (2 ^ 30))

-- the body that holds a state
abbrev pub state_body : State → List ℕ
state_body state = body_of (checkpoint state)

-- these records, which lead to a state, or the one in the place of many
abbrev pub shortened_bodies : (areas : Bool) → State → List (List ℕ) → List (List ℕ)
shortened_bodies areas state bodies = cond (is_due areas (length bodies) (length (state_body state))) (state_body state ∷ []) bodies

-- the records of a replica once it was opened, if these were in its file before and lead to a state: a row of the first
-- version becomes the one record of the state
abbrev pub opened_bodies : (file : List ℕ) → State → List (List ℕ) → List (List ℕ)
opened_bodies file state bodies = cond (is_old_row file) (state_body state ∷ []) (shortened_bodies (has_areas file) state bodies)

-- the replica was opened: the records that its disk had lead to what it holds, and the disk now has them or the one in their place,
-- in a file of the second version
pub record IsOpenedReplica {D : Type 0} (m : DiskModel D) (before after : D) (replica : Replica) : Type 0 where
  pub bodies : List (List ℕ)
  pub records : Records magic (m.seen before) bodies
  pub stands : Stands bodies (held_state replica)
  pub now : IsReplicaOn m replica after (opened_bodies (m.seen before) (held_state replica) bodies)
  pub version : journal_version replica.journal ≡ 50

-- two files open to one state
pub record OpensAlike (file c : List ℕ) : Type 0 where
  pub state : State
  pub first : OpensTo file state
  pub second : OpensTo c state

-- what a crash leaves while a replica is opened: an image that the disk could leave before, the records that were read,
-- or a file that opens to the same state
abbrev pub IsOpening : {D : Type 0} → DiskModel D → D → List ℕ → Type 0
IsOpening m before c = IsImageThen m before magic c ⊎ OpensAlike (m.seen before) c

-- an image that the disk could leave before, or one of at most so many bytes
abbrev pub IsAtMost : {D : Type 0} → DiskModel D → D → ℕ → List ℕ → Type 0
IsAtMost m before bytes c = m.leaves before c ⊎ (length c ≤ bytes)

-- whether a journal is on a row of the first version
abbrev pub is_on_old_row : Journal → Bool
is_on_old_row journal = not (can_checkpoint journal) && nat_eq (journal_version journal) 49

-- the records of a journal, once many became one
abbrev pub shortened : Journal → State → List (List ℕ) → List (List ℕ)
shortened journal state bodies = shortened_bodies (can_checkpoint journal) state bodies

-- once a row of the first version became one
abbrev pub renewed : Journal → State → List (List ℕ) → List (List ℕ)
renewed journal state bodies = cond (is_on_old_row journal) (state_body state ∷ []) bodies

-- once both were done
abbrev pub replaced : Journal → State → List (List ℕ) → List (List ℕ)
replaced journal state bodies = cond (is_on_old_row journal) (state_body state ∷ []) (shortened journal state bodies)

-- if a journal's records lead to a state, what became of them leads there, too
abbrev pub StandsStill : {D : Type 0} → DiskModel D → Journal → D → State → (List (List ℕ) → List (List ℕ)) → Type 0
StandsStill m journal disk state change = (bodies : List (List ℕ)) → IsOpenOn m magic journal disk bodies → Stands bodies state → Stands (change bodies) state

-- if a journal was open on a disk, its file is of the second version now
abbrev pub BecomesSecond : {D : Type 0} → DiskModel D → (old new : Journal) → D → Type 0
BecomesSecond m old new before = (bodies : List (List ℕ)) → IsOpenOn m magic old before bodies → journal_version new ≡ 50

-- a journal is open on what became of its records, and they lead to the same state
pub record IsReplaced {D : Type 0} (m : DiskModel D) (old new : Journal) (before after : D) (state : State)
    (change : Journal → State → List (List ℕ) → List (List ℕ)) : Type 0 where
  pub records : RecordsAfter m old new before after (change old state)
  pub stands : StandsStill m old before state (change old state)
  pub length : m.len after ≡ journal_end new
  pub live : is_closed new ≡ false
  pub version : BecomesSecond m old new before

-- unless it is on a row of the first version, a journal's records are where they were
pub record IsInPlace (old new : Journal) : Type 0 where
  pub areas : is_on_old_row old ≡ false → can_checkpoint new ≡ can_checkpoint old
  pub end : is_on_old_row old ≡ false → journal_end new ≡ journal_end old

-- a crash leaves a file that opens to a state, if it is what a journal's records lead to
abbrev pub LeavesState : {D : Type 0} → DiskModel D → Journal → (before after : D) → State → Type 0
LeavesState m journal before after state = (bodies : List (List ℕ)) → IsOpenOn m magic journal before bodies → Stands bodies state
    → LeavesOnly m before after (λ c. OpensTo c state)

-- there are 1,000 records or more
abbrev pub AreMany : List (List ℕ) → Type 0
AreMany bodies = 1000 ≤ length bodies

-- a crash leaves so many bytes more than a file has at the most with records of which this holds, or an image that the disk
-- could leave before
abbrev pub GrowsAtMost : {D : Type 0} → DiskModel D → Journal → (before after : D) → (List (List ℕ) → Type 0) → ℕ → Type 0
GrowsAtMost m journal before after P more = (bodies : List (List ℕ)) → IsOpenOn m magic journal before bodies
    → (most : ℕ) → (P bodies → length (m.seen before) ≤ most) → LeavesOnly m before after (IsAtMost m before (most + more))

-- why the state is not written in place of many records
abbrev pub ShorteningRefused : {D : Type 0} → DiskModel D → Journal → (before after : D) → ShorteningError → Type 0
ShorteningRefused m journal before after Disk = Rose (m.faults before) (m.faults after)
ShorteningRefused m journal before after Memory = (after ≡ before) × (1000 ≤ journal_count journal)

-- the disk has the records on which a journal is open
abbrev pub KeepsBodies : {D : Type 0} → DiskModel D → Journal → (before after : D) → Type 0
KeepsBodies m journal before after = (bodies : List (List ℕ)) → IsOpenOn m magic journal before bodies → Records magic (m.seen after) bodies

-- why the state is not written in place of a journal's records
abbrev pub RenewingRefused : {D : Type 0} → DiskModel D → Journal → (before after : D) → State → RenewingError → Type 0
RenewingRefused m journal before after state renewings.Disk = Rose (m.faults before) (m.faults after)
RenewingRefused m journal before after state renewings.Memory = KeepsBodies m journal before after
RenewingRefused m journal before after state (renewings.TooLong bytes) =
    KeepsBodies m journal before after × (is_on_old_row journal ≡ true) × IsStateTooLong state bytes

-- the same cause, of both
abbrev pub shortening_in_renewing : ShorteningError → RenewingError
shortening_in_renewing Disk = renewings.Disk
shortening_in_renewing Memory = renewings.Memory

-- of a replica that is not opened
abbrev pub renewing_in_open : RenewingError → OpenError
renewing_in_open renewings.Disk = opens.Disk
renewing_in_open renewings.Memory = opens.Memory
renewing_in_open (renewings.TooLong bytes) = opens.TooLong bytes
