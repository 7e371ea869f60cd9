-- The laws of openings, and worked rows of the walk with blocks of two.
use Rattle.std.specs.Prelude.{◌≡◌, ℕ, zero, true, cond, List, [], ◌∷◌, ◌++◌, length, map, reverse, Ok}
use Rattle.tw_records.specs.Log.{Accepted, ClientSnapshot, Log}
use Rattle.tw_records.specs.Bodies.{block_size, is_kind, body_of, entry_of, accepted_in, follows, snapshot_body, image_of, snapshot_in, snapshot_for, is_stored}
use Rattle.tw_records.specs.Reading.{StandFor}
use Rattle.tw_records.specs.Opening.{opened_records}
use Rattle.tw_records.specs.Table.{Own, Named, Block, Stored, Odd, sources_of, Row, Placed, Table, with_row, with_image, log_in, body_at, table_in}

-- ---- what an opening makes of records that stand

-- without segments and bytes
abbrev pub bare_version : Accepted → Accepted
bare_version a = record { client = a.client; version = record { id = a.version.id; parent = a.version.parent; segment = [] } }

abbrev pub bare_snapshot : ClientSnapshot → ClientSnapshot
bare_snapshot t = snapshot_for (image_of t) []

abbrev pub bare : Log → Log
bare log = record { versions = map bare_version log.versions; snapshots = map bare_snapshot log.snapshots }

-- each version and each snapshot with the number of its record, of bodies the last of which comes first
abbrev pub tabled : List (List ℕ) → Table
tabled [] = record { rows = []; images = [] }
tabled (body ∷ earlier) =
    cond (is_kind 1 body) (with_row (tabled earlier) (entry_of (accepted_in body)) (length earlier))
    (cond (is_kind 3 body) (with_image (tabled earlier) (image_of (snapshot_in body)) (length earlier)) (tabled earlier))

-- if records stand for a log, an opening finds no damage, and its table has the log's versions and snapshots with the numbers of their records
abbrev pub StandingIsRead : Type 0
StandingIsRead = (bodies : List (List ℕ)) (log : Log) → StandFor bodies log
    → (table_in block_size bodies ≡ Ok (tabled (reverse bodies))) × (log_in (tabled (reverse bodies)) ≡ bare log)

-- the records with these numbers are those of the versions and of the snapshots
abbrev pub NumbersTell : Type 0
NumbersTell = (bodies : List (List ℕ)) (log : Log) → StandFor bodies log
    → (map (λ (row : Row). body_at bodies row.number) (tabled (reverse bodies)).rows ≡ map body_of log.versions)
    × (map (λ (p : Placed). body_at bodies p.number) (tabled (reverse bodies)).images ≡ map snapshot_body log.snapshots)

-- what an opening leaves stands for the same log
abbrev pub OpenedStands : Type 0
OpenedStands = (bodies : List (List ℕ)) (log : Log) → StandFor bodies log → StandFor (opened_records bodies (tabled (reverse bodies))) log

-- one record more
abbrev pub VersionStands : Type 0
VersionStands = (bodies : List (List ℕ)) (log : Log) (body : List ℕ) → StandFor bodies log → follows log.versions body ≡ true
    → StandFor (bodies ++ body ∷ []) (record { versions = log.versions ++ accepted_in body ∷ []; snapshots = log.snapshots })

abbrev pub SnapshotStands : Type 0
SnapshotStands = (bodies : List (List ℕ)) (log : Log) (body : List ℕ) → StandFor bodies log → is_stored log body ≡ true
    → StandFor (bodies ++ body ∷ []) (record { versions = log.versions; snapshots = log.snapshots ++ snapshot_in body ∷ [] })

-- ---- the walk

-- bodies of the three kinds
abbrev pub v : List ℕ
v = 1 ∷ []

abbrev pub b : List ℕ
b = 2 ∷ []

abbrev pub s : List ℕ
s = 3 ∷ []

abbrev pub WalkedRows : Type 0
WalkedRows =
    (sources_of 2 zero zero (reverse (v ∷ v ∷ s ∷ v ∷ b ∷ v ∷ [])) ≡ Own 0 ∷ Named 4 0 1 ∷ Stored 2 ∷ Named 4 1 3 ∷ Block 4 ∷ Own 5 ∷ [])
    × (sources_of 2 zero zero (reverse (v ∷ b ∷ v ∷ [])) ≡ Odd 1 ∷ Named 1 1 0 ∷ Block 1 ∷ Own 2 ∷ [])
    × (sources_of 2 zero zero (reverse (v ∷ v ∷ b ∷ v ∷ b ∷ [])) ≡ Named 2 0 0 ∷ Named 2 1 1 ∷ Block 2 ∷ Odd 4 ∷ Named 4 1 3 ∷ Block 4 ∷ [])
