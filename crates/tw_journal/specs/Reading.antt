-- Finding and reading a record whose number is known.
use Rattle.std.specs.Prelude.{◌≡◌, ◌⊎◌, ◌<◌, ◌≤◌, ◌^◌, ℕ, ◌+◌, ◌-◌, min, List, [], ◌∷◌, ◌++◌, length, take, drop, slice_index_or, All}
use Rattle.std.specs.Int.{from_be_bytes, w32}
use Rattle.tw_world.specs.Disk.{DiskModel, Tells, Rose, Untouched}
use Rattle.tw_journal.specs.Window.{IsWindowOn}
use Rattle.tw_journal.specs.declared.window.Window.{Window}
use Rattle.tw_journal.specs.Record.{rows, IsRecordLength, AreOffsets}
use Rattle.tw_journal.specs.Open.{HeadIs}
use Rattle.tw_journal.specs.declared.error.OpenError.{OpenError}
use Rattle.tw_journal.specs.declared.error.OpenError.TheVariants.{Disk, Damaged, Memory}
use Rattle.tw_journal.specs.declared.records.Span.{Span}
use Rattle.tw_journal.specs.declared.find.Head.TheVariants.{Whole}

-- from this offset on a disk holds the records with these bodies and nothing else
pub record HoldsRows {D : Type 0} (m : DiskModel D) (disk : D) (start : ℕ) (bodies : List (List ℕ)) : Type 0 where
  pub tells : Tells m disk
  pub file : drop start (m.seen disk) ≡ rows bodies
  pub lengths : All IsRecordLength bodies

-- whichever rows the disk holds, if these are offsets of them and there is a record with the number, this holds of them
abbrev pub OnRows : {D : Type 0} → DiskModel D → D → (start : ℕ) (known : List ℕ) (n : ℕ) → (List (List ℕ) → Type 0) → Type 0
OnRows m disk start known n P = (all : List (List ℕ)) → HoldsRows m disk start all → AreOffsets start all known → n < length all → P all

-- no open record is here: nothing, a gate that is not open, or a body that passes the end
abbrev pub IsNoRecord : List ℕ → Type 0
IsNoRecord [] = Unit {0}
IsNoRecord (gate ∷ more) = (gate ≡ 1 → ⊥) ⊎ (length more < 4 + from_be_bytes w32 (take 4 more))

-- an open record is here, with a body of so many bytes
pub record IsSizeAt (rest : List ℕ) (size : ℕ) : Type 0 where
  pub head : HeadIs rest (Whole size)
  pub fits : size < 2 ^ 32

-- an open record is here
abbrev pub IsRecord : List ℕ → Type 0
IsRecord rest = (size : ℕ) × IsSizeAt rest size

-- the number of the record from which the way to another one begins: the last whose offset is known, and that is not after it
abbrev pub known_number : List ℕ → ℕ → ℕ
known_number known n = min n (length known - 1)

-- its offset; if none is known the way begins where the records do
abbrev pub known_offset : (start : ℕ) → List ℕ → ℕ → ℕ
known_offset start known n = slice_index_or known (known_number known n) start

-- the way to the record with number `n` leads over whole records to the one with this number, which is at this offset
pub record LeadsTo (start : ℕ) (known : List ℕ) (n : ℕ) (file : List ℕ) (number at : ℕ) : Type 0 where
  pub front : List (List ℕ)
  pub split : drop (known_offset start known n) file ≡ rows front ++ drop at file
  pub lengths : All IsRecordLength front
  pub offset : at ≡ known_offset start known n + length (rows front)
  pub count : number ≡ known_number known n + length front
  pub inside : number ≤ n

-- the way to a record leads to this offset, where no record is
pub record StopsAt (start : ℕ) (known : List ℕ) (n : ℕ) (file : List ℕ) (at : ℕ) : Type 0 where
  pub number : ℕ
  pub way : LeadsTo start known n file number at
  pub none : IsNoRecord (drop at file)

-- the way to a record leads to it at this offset, where it has a body of so many bytes
pub record StandsAt (start : ℕ) (known : List ℕ) (n : ℕ) (file : List ℕ) (at size : ℕ) : Type 0 where
  pub way : LeadsTo start known n file n at
  pub here : IsSizeAt (drop at file) size

-- the record with a number is here, and has a body of this length
pub record IsSpanOf (start : ℕ) (bodies : List (List ℕ)) (n : ℕ) (span : Span) : Type 0 where
  pub offset : span.at ≡ start + length (rows (take n bodies))
  pub size : span.size ≡ length (slice_index_or bodies n [])

abbrev pub SizeRefused : {D : Type 0} → DiskModel D → (before after : D) (at : ℕ) → OpenError → Type 0
SizeRefused m before after at Disk = Rose (m.faults before) (m.faults after)
SizeRefused m before after at Memory = Unit {0}
SizeRefused m before after at (Damaged offset) = (offset ≡ at) × (Tells m before → IsNoRecord (drop at (m.seen before)))

-- why an offset is not found: never if the disk holds the rows of a journal that has such a record
abbrev pub FindRefused : {D : Type 0} → DiskModel D → (before after : D) (start : ℕ) (known : List ℕ) (n : ℕ) → OpenError → Type 0
FindRefused m before after start known n Disk = Rose (m.faults before) (m.faults after)
FindRefused m before after start known n Memory = Unit {0}
FindRefused m before after start known n (Damaged offset) = (Tells m before → StopsAt start known n (m.seen before) offset)
    × OnRows m before start known n (λ all. ⊥)

-- what the way to a record knows from turn to turn
pub record Finding {D : Type 0} (m : DiskModel D) (start : ℕ) (known : List ℕ) (n : ℕ) (first now : D) (window : Window) (at number : ℕ) : Type 0 where
  pub inside : number ≤ n
  pub untouched : Untouched m first now
  pub shown : IsWindowOn m now window
  pub so_far : OnRows m first start known n (λ all. at ≡ start + length (rows (take number all)))
  pub way : Tells m first → LeadsTo start known n (m.seen first) number at
