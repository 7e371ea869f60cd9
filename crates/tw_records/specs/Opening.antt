-- What an opening makes of records: how many versions come after the last block, and the records that it leaves.
use Rattle.std.specs.Prelude.{ℕ, ◌+◌, ◌<◌, ◌==◌, nat_le, cond, List, [], ◌∷◌, ◌++◌, map}
use Rattle.tw_records.specs.declared.entry.Entry.{Entry}
use Rattle.tw_records.specs.Bodies.{kind_in, block_size, block_of, last_of}
use Rattle.tw_records.specs.Table.{Source, Own, Named, Block, Stored, Odd, Row, Table}

-- how many versions come after the last block, after one record more of this kind
abbrev pub fresh_by : (fresh kind : ℕ) → ℕ
fresh_by fresh kind = cond (kind == 1) (fresh + 1) (cond (kind == 2) 0 fresh)

abbrev pub fresh_after : (fresh : ℕ) → (kinds : List ℕ) → ℕ
fresh_after fresh [] = fresh
fresh_after fresh (kind ∷ kinds) = fresh_after (fresh_by fresh kind) kinds

-- how many versions of these records come after the last block
abbrev pub fresh_in : List (List ℕ) → ℕ
fresh_in bodies = fresh_after 0 (map kind_in bodies)

-- with a block of the last 256 of these versions at the end, if so many come after the last block
abbrev pub with_block_of : List Entry → (fresh : ℕ) → List (List ℕ) → List (List ℕ)
with_block_of entries fresh bodies = cond (nat_le block_size fresh) (bodies ++ block_of (last_of block_size entries) ∷ []) bodies

abbrev pub entries_in : Table → List Entry
entries_in table = map (λ (row : Row). row.entry) table.rows

-- the records once a server was opened whose table this is
abbrev pub opened_records : List (List ℕ) → Table → List (List ℕ)
opened_records bodies table = with_block_of (entries_in table) (fresh_in bodies) bodies

-- the records and the place of a source are there, of so many records
abbrev pub IsInside : ℕ → Source → Type 0
IsInside count (Own n) = n < count
IsInside count (Named block place n) = (block < count) × (place < block_size) × (n < count)
IsInside count (Block n) = n < count
IsInside count (Stored n) = n < count
IsInside count (Odd n) = n < count
