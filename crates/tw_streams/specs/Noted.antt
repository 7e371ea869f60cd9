-- A stream with a note of what went through it.
use Rattle.std.specs.Prelude.{◌≡◌, ℕ, ◌+◌, ◌-◌, ◌^◌, min, List, [], ◌++◌, length, take, Result, Ok, Err}
use Rattle.tw_streams.specs.declared.noted.Noted.{Noted}

-- a count after so many more, or the largest one that there is
abbrev pub counted : (count more : ℕ) → ℕ
counted count more = min (count + more) (2 ^ 64 - 1)

-- nothing is noted yet
pub record IsFresh {S : Type 0} (noted : Noted S) : Type 0 where
  pub front : noted.front.items ≡ []
  pub taken : noted.taken ≡ 0
  pub given : noted.given ≡ 0

-- these bytes were read: of all the first 512 are kept
pub record Notes {S : Type 0} (old new : Noted S) (bytes : List ℕ) : Type 0 where
  pub front : new.front.items ≡ take 512 (old.front.items ++ bytes)
  pub taken : new.taken ≡ counted old.taken (length bytes)
  pub given : new.given ≡ old.given

-- a read notes the bytes that it gave, and one that fails changes no note
abbrev pub NotesRead : {S E : Type 0} → (old new : Noted S) → Result ℕ E → (buffer : List ℕ) → Type 0
NotesRead old new (Ok count) buffer = Notes old new (take count buffer)
NotesRead old new (Err e) buffer = new ≡ record old { stream = new.stream }

-- a write notes how many bytes it took, and one that fails changes no note
abbrev pub NotesWritten : {S E : Type 0} → (old new : Noted S) → Result ℕ E → Type 0
NotesWritten old new (Ok count) = new ≡ record old { stream = new.stream; given = counted old.given count }
NotesWritten old new (Err e) = new ≡ record old { stream = new.stream }
