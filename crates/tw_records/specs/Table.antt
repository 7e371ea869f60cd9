-- What an opening reads of the records, from the last one backwards: where each version and each snapshot is told.
use Rattle.std.specs.Prelude.{ℕ, zero, suc, ◌+◌, ◌-◌, ◌*◌, ◌==◌, ◌&&◌, nat_lt, Bool, cond, Result, Ok, Err}
use Rattle.std.specs.Prelude.{List, [], ◌∷◌, ◌++◌, length, map, take, drop, reverse, slice_index_or}
use Rattle.tw_records.specs.declared.entry.Entry.{Entry}
use Rattle.tw_records.specs.declared.image.Image.{Image}
pub use Rattle.tw_records.specs.declared.walk.Source.{Source}
pub use Rattle.tw_records.specs.declared.walk.Source.TheVariants.{Own, Named, Block, Stored, Odd}
use Rattle.tw_records.specs.Log.{Accepted, ClientSnapshot, Log}
use Rattle.tw_records.specs.Bodies.{is_kind, is_body, accepted_in, entry_of, is_next_entry}
use Rattle.tw_records.specs.Bodies.{is_snapshot_body, snapshot_in, snapshot_for, image_of, is_next_image}

abbrev pub other : List ℕ → ℕ → Source
other body n = cond (is_kind 3 body) (Stored n) (Odd n)

module _ (size : ℕ) where
  -- The sources of these bodies, of which the last comes first, in the order of the file. So many versions are still passed over, for this block after them.
  -- A block that meets another within its versions, or the file's beginning, names records that are not there.
  abbrev pub sources_of : (passing block : ℕ) → List (List ℕ) → List Source
  sources_of zero block [] = []
  sources_of (suc p) block [] = Odd block ∷ []
  sources_of zero block (body ∷ earlier) =
      cond (is_kind 1 body) (sources_of zero block earlier ++ Own (length earlier) ∷ [])
      (cond (is_kind 2 body) (sources_of size (length earlier) earlier ++ Block (length earlier) ∷ [])
      (sources_of zero block earlier ++ other body (length earlier) ∷ []))
  sources_of (suc p) block (body ∷ earlier) =
      cond (is_kind 1 body) (sources_of p block earlier ++ Named block p (length earlier) ∷ [])
      (cond (is_kind 2 body) (sources_of size (length earlier) earlier ++ (Block (length earlier) ∷ Odd block ∷ []))
      (sources_of (suc p) block earlier ++ other body (length earlier) ∷ []))

  -- how many are still passed over, and for which block, after one record more with this kind and number, and the sources that it gives
  abbrev pub passing_after : (passing kind : ℕ) → ℕ
  passing_after passing kind = cond (kind == 1) (passing - 1) (cond (kind == 2) size passing)

  abbrev pub is_block_body : List ℕ → Bool
  is_block_body body = is_kind 2 body && length body == 1 + 48 * size

abbrev pub block_after : (block kind number : ℕ) → ℕ
block_after block kind n = cond (kind == 2) n block

abbrev pub version_at : (passing block number : ℕ) → Source
version_at passing block n = cond (nat_lt 0 passing) (Named block (passing - 1) n) (Own n)

-- a block that names records that are not there
abbrev pub missing : (passing block : ℕ) → List Source
missing passing block = cond (nat_lt 0 passing) (Odd block ∷ []) []

abbrev pub found_at : (passing block kind number : ℕ) → List Source
found_at passing block kind n =
    cond (kind == 1) (version_at passing block n ∷ [])
    (cond (kind == 2) (Block n ∷ missing passing block)
    (cond (kind == 3) (Stored n ∷ []) (Odd n ∷ [])))

-- ---- the table

-- a version, and the number of its record
pub record Row : Type 0 where
  pub entry : Entry
  pub number : ℕ

-- a stored snapshot's client and version, and the number of its record
pub record Placed : Type 0 where
  pub image : Image
  pub number : ℕ

pub record Table : Type 0 where
  pub rows : List Row
  pub images : List Placed

-- the log that a table tells, without segments and bytes
abbrev pub version_in : Row → Accepted
version_in row = record { client = row.entry.client; version = record { id = row.entry.id; parent = row.entry.parent; segment = [] } }

abbrev pub stored_in : Placed → ClientSnapshot
stored_in p = snapshot_for p.image []

abbrev pub log_in : Table → Log
log_in table = record { versions = map version_in table.rows; snapshots = map stored_in table.images }

abbrev pub with_row : Table → Entry → ℕ → Table
with_row table e n = record { rows = table.rows ++ record { entry = e; number = n } ∷ []; images = table.images }

abbrev pub with_image : Table → Image → ℕ → Table
with_image table image n = record { rows = table.rows; images = table.images ++ record { image = image; number = n } ∷ [] }

-- the version at a place of a block
abbrev pub entry_at : ℕ → List ℕ → Entry
entry_at place body = record {
  client = take 16 (drop (1 + 48 * place) body);
  id = take 16 (drop (17 + 48 * place) body);
  parent = take 16 (drop (33 + 48 * place) body);
}

abbrev pub body_at : List (List ℕ) → ℕ → List ℕ
body_at bodies n = slice_index_or bodies n []

-- a version that may come next, or the damage
abbrev pub row_or : Table → Bool → Entry → (number damaged : ℕ) → Result Table ℕ
row_or table whole e number damaged = cond (whole && is_next_entry (log_in table).versions e) (Ok (with_row table e number)) (Err damaged)

module _ (size : ℕ) (bodies : List (List ℕ)) where
  -- a source after others: the table with what it tells, or the number of the record that is damaged
  abbrev pub taken : Table → Source → Result Table ℕ
  taken table (Own n) = row_or table (is_body (body_at bodies n)) (entry_of (accepted_in (body_at bodies n))) n n
  taken table (Named block place n) = row_or table (is_block_body size (body_at bodies block)) (entry_at place (body_at bodies block)) n block
  taken table (Block n) = cond (is_block_body size (body_at bodies n)) (Ok table) (Err n)
  taken table (Stored n) =
      let body = body_at bodies n in
      let image = image_of (snapshot_in body) in
      cond (is_snapshot_body body && is_next_image (log_in table) image) (Ok (with_image table image n)) (Err n)
  taken table (Odd n) = Err n

  abbrev pub and_then : Result Table ℕ → (Table → Result Table ℕ) → Result Table ℕ
  and_then (Ok table) f = f table
  and_then (Err n) f = Err n

  abbrev pub table_by : Table → List Source → Result Table ℕ
  table_by table [] = Ok table
  table_by table (s ∷ ss) = and_then (taken table s) (λ next. table_by next ss)

  -- the table that an opening makes of records with these bodies, or the number of the record that is damaged
  abbrev pub table_in : Result Table ℕ
  table_in = table_by (record { rows = []; images = [] }) (sources_of size zero zero (reverse bodies))
