-- What writes that end with a sync make of a disk, and what a crash of them leaves.
use Rattle.std.specs.Prelude.{◌≡◌, ◌⊎◌, ℕ, List}
use Rattle.tw_world.specs.Disk.{DiskModel, Tells, IsStable, LeavesOnly}

-- the disk now holds what the change makes of its bytes, all of it stable
abbrev pub Makes : {D : Type 0} → DiskModel D → (before after : D) → (List ℕ → List ℕ) → Type 0
Makes m before after change = Tells m before → (m.seen after ≡ change (m.seen before)) × IsStable m after

-- the same, if it was stable before
abbrev pub MakesOfStable : {D : Type 0} → DiskModel D → (before after : D) → (List ℕ → List ℕ) → Type 0
MakesOfStable m before after change = Tells m before → IsStable m before → (m.seen after ≡ change (m.seen before)) × IsStable m after

-- if it was stable before, a crash leaves of its bytes only what this holds of
abbrev pub LeavesOfStable : {D : Type 0} → DiskModel D → (before after : D) → (List ℕ → List ℕ → Type 0) → Type 0
LeavesOfStable m before after P = Tells m before → IsStable m before → LeavesOnly m before after (P (m.seen before))

-- the file from before, or what the change makes of it
abbrev pub IsOldOr : (List ℕ → List ℕ) → (file c : List ℕ) → Type 0
IsOldOr change file c = (c ≡ file) ⊎ (c ≡ change file)
