-- How much longer a run makes the file, and the journal of hours.
use Rattle.std.specs.Prelude.{◌≡◌, ◌+◌, ◌≤◌, ◌^◌, ℕ, List, length, Option, Some, None}
use Rattle.tw_world.specs.Disk.{DiskModel, Tells, LeavesOnly}
use Rattle.tw_journal.specs.Record.{IsLongerBy}
use Rattle.timew_store.specs.Growth.{JournalGrowsBy}
use Rattle.timew_store.specs.Prepared.{OnPrepared}
use Rattle.timew_store.specs.declared.prepare.PreparedChange.{PreparedChange}

-- a file that is at most so many bytes longer than one that a crash could leave before
abbrev pub IsGrownBy : {D : Type 0} → DiskModel D → D → ℕ → List ℕ → Type 0
IsGrownBy m before bytes file = (other : List ℕ) × m.leaves before other × (length file ≤ length other + bytes)

-- no file that a crash leaves of an opening is longer by more than a record of the state and the front of a new file
abbrev pub OpeningGrows : {D : Type 0} → DiskModel D → (d0 d1 : D) → Type 0
OpeningGrows m d0 d1 = Tells m d0 → LeavesOnly m d0 d1 (IsLongerBy m d0 (2 ^ 30 + 24))

-- no file that a crash leaves of a run is longer by more than so many bytes
abbrev pub GrowsBy : {D : Type 0} → DiskModel D → (d0 d1 : D) → ℕ → Type 0
GrowsBy m d0 d1 bytes = Tells m d0 → LeavesOnly m d0 d1 (IsGrownBy m d0 bytes)

-- by more than what an opening makes it longer and a record
abbrev pub GrowsByRecord : {D : Type 0} → DiskModel D → (d0 d1 : D) → Type 0
GrowsByRecord m d0 d1 = GrowsBy m d0 d1 (2 ^ 31 + 24)

-- no journal that a crash leaves of loading the hours is longer by more than the front of a new file
abbrev pub LoadingGrows : {J : Type 0} → DiskModel J → (j0 j1 : J) → Type 0
LoadingGrows n j0 j1 = Tells n j0 → LeavesOnly n j0 j1 (IsLongerBy n j0 29)

-- no journal that a crash leaves of a change of hours that were loaded is longer by more than a record
abbrev pub ChangeGrows : {J : Type 0} → DiskModel J → (j0 j1 : J) → Option PreparedChange → Type 0
ChangeGrows n j0 j1 None = j1 ≡ j0
ChangeGrows n j0 j1 (Some change) = OnPrepared change (λ store rows. JournalGrowsBy n store.journal j0 j1 (2 ^ 30))

-- no journal of hours that a crash leaves of a run is longer by more than the front of a new file and a record
abbrev pub HoursGrow : {J : Type 0} → DiskModel J → (j0 j1 : J) → Type 0
HoursGrow n j0 j1 = GrowsBy n j0 j1 (2 ^ 30 + 29)
