-- Where an index has the numbers of entries, by a uuid of each.
use Rattle.std.specs.Prelude.{◌≡◌, ℕ, zero, suc, ◌+◌, ◌%◌, ◌^◌, ◌<◌, ◌≤◌, ◌==◌, Bool, cond, List, [], length, map, slice_index_or, vec_capacity}
use Rattle.std.specs.Int.{from_be_bytes, w128}
use Rattle.tw_records.specs.declared.entry.Entry.{Entry}
use Rattle.tw_server.specs.declared.index.Index.{Index}

-- the uuid by which an entry is found: its parent, or its id
abbrev pub key_of : Bool → Entry → List ℕ
key_of by_parent e = cond by_parent e.parent e.id

abbrev pub keys_of : Bool → List Entry → List (List ℕ)
keys_of by_parent entries = map (key_of by_parent) entries

-- the bucket of a uuid among so many
unfoldable pub bucket_of : ℕ → List ℕ → ℕ
bucket_of size key = from_be_bytes w128 key % size

-- the bucket of the key with this number
abbrev pub bucket_at : ℕ → List (List ℕ) → ℕ → ℕ
bucket_at size keys n = bucket_of size (slice_index_or keys n [])

abbrev pub is_in : ℕ → List (List ℕ) → (bucket : ℕ) → ℕ → Bool
is_in size keys bucket n = bucket_at size keys n == bucket

-- one more than the last number below this one that passes, or 0
abbrev pub last_below : (ℕ → Bool) → ℕ → ℕ
last_below p zero = 0
last_below p (suc n) = cond (p n) (suc n) (last_below p n)

-- of each of so many buckets the last of these keys, and of each key the one before it in its bucket: one more than its number, or 0
pub record AreBuckets (size : ℕ) (ends before : List ℕ) (keys : List (List ℕ)) : Type 0 where
  pub wide : length ends ≡ size
  pub last : (b : ℕ) → b < size → slice_index_or ends b 0 ≡ last_below (is_in size keys b) (length keys)
  pub long : length before ≡ length keys
  pub earlier : (n : ℕ) → n < length keys → slice_index_or before n 0 ≡ last_below (is_in size keys (bucket_at size keys n)) n
  pub some : 0 < length keys → 0 < size

abbrev pub IsIndexOf : Index → List (List ℕ) → Type 0
IsIndexOf index keys = AreBuckets (length index.ends.items) index.ends.items index.before.items keys

-- the number of one entry more has a place, and fits 32 bits
pub record HasIndexRoom (index : Index) : Type 0 where
  pub buckets : 0 < length index.ends.items
  pub spare : length index.before.items + 1 ≤ vec_capacity index.before
  pub few : length index.before.items + 1 < 2 ^ 32
