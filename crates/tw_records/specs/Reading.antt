-- What the bodies of records lead to, read one after another.
use Rattle.std.specs.Prelude.{◌≡◌, ℕ, ◌+◌, ◌&&◌, nat_eq, nat_le, Bool, cond, Option, Some, None, option_and_then, List, [], ◌∷◌, ◌++◌, map}
use lib.Pointwise.{pointwise}
use Rattle.tw_records.specs.Log.{Log}
use Rattle.tw_records.specs.Bodies.{accepted_in, entry_of, follows, block_size, block_of, last_of, snapshot_in, is_stored}

-- the log so far, and how many of its versions come after the last block
pub record Reading : Type 0 where
  pub log : Log
  pub fresh : ℕ

abbrev pub nothing_read : Reading
nothing_read = record { log = record { versions = []; snapshots = [] }; fresh = 0 }

-- the block of the last 256 versions, if so many come after the block before it
abbrev pub is_block : Reading → List ℕ → Bool
is_block r body = nat_le block_size r.fresh && pointwise nat_eq body (block_of (map entry_of (last_of block_size r.log.versions)))

abbrev pub with_version : Reading → List ℕ → Reading
with_version r body = record { log = record { versions = r.log.versions ++ accepted_in body ∷ []; snapshots = r.log.snapshots }; fresh = r.fresh + 1 }

abbrev pub with_block : Reading → Reading
with_block r = record { log = r.log; fresh = 0 }

abbrev pub with_snapshot : Reading → List ℕ → Reading
with_snapshot r body = record { log = record { versions = r.log.versions; snapshots = r.log.snapshots ++ snapshot_in body ∷ [] }; fresh = r.fresh }

-- one body more
abbrev pub read_body : Reading → List ℕ → Option Reading
read_body r body =
    cond (follows r.log.versions body) (Some (with_version r body))
    (cond (is_block r body) (Some (with_block r))
    (cond (is_stored r.log body) (Some (with_snapshot r body)) None))

abbrev pub read_from : Reading → List (List ℕ) → Option Reading
read_from r [] = Some r
read_from r (body ∷ bodies) = option_and_then (λ next. read_from next bodies) (read_body r body)

-- records with these bodies lead to this log
abbrev pub StandFor : List (List ℕ) → Log → Type 0
StandFor bodies log = (fresh : ℕ) × (read_from nothing_read bodies ≡ Some (record { log = log; fresh = fresh }))
