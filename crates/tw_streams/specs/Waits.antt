-- How long the calls of a connection may wait, and how it is closed.
use Rattle.std.specs.Prelude.{◌≡◌, ◌⊎◌, ℕ, ◌+◌, ◌-◌, ◌*◌, ◌≤◌, min, List, Option, Result, Ok, Err, length}
use Rattle.std.specs.Duration.{as_nanos, FitsDuration}
use Rattle.std.specs.Io.KnownBytes.{Consumes, IsAtEnd}
use Rattle.tw_streams.specs.declared.connection.Connection.{Connection}
use Rattle.tw_streams.specs.declared.connection.Limits.{Limits}

-- it waits for its silence, or up to its end if that is nearer, from a time that its clock has shown
abbrev pub MayWait : {C S : Type 0} (has_shown : C → ℕ → Type 0) → Connection C S → ℕ → Type 0
MayWait has_shown c wait = (time : ℕ) × has_shown c.clock time × (wait ≡ min (as_nanos c.end - time) (as_nanos c.silence))

-- the last call of its stream waited so
abbrev pub Waited : {C S : Type 0} (has_shown : C → ℕ → Type 0) (waited : S → ℕ → Type 0) (old new : Connection C S) → Type 0
Waited has_shown waited old new = (wait : ℕ) × MayWait has_shown old wait × waited new.stream wait

-- the end of a connection after so many more bytes: a millisecond later for each, and never after its last moment
abbrev pub end_by : {C S : Type 0} → Connection C S → ℕ → ℕ
end_by c count = min (as_nanos c.last) (as_nanos c.end + count * 1_000_000)

-- a call moves the end on by the bytes that it read or wrote, and leaves it if it fails
abbrev pub Gains : {C S E : Type 0} → (old new : Connection C S) → Result ℕ E → Type 0
Gains old new (Ok count) = as_nanos new.end ≡ end_by old count
Gains old new (Err e) = as_nanos new.end ≡ as_nanos old.end

-- a connection that begins with these limits at a time that its clock has shown
pub record Begins {C S : Type 0} (has_shown : C → ℕ → Type 0) (limits : Limits) (c : Connection C S) : Type 0 where
  pub silent : as_nanos c.silence ≡ limits.silence_seconds * 1_000_000_000
  pub time : ℕ
  pub shown : has_shown c.clock time
  pub whole : as_nanos c.end ≡ time + limits.whole_seconds * 1_000_000_000
  pub most : as_nanos c.last ≡ time + limits.most_seconds * 1_000_000_000

-- it ends at most so many nanoseconds after a time that its clock has shown
abbrev pub EndsWithin : {C S : Type 0} (has_shown : C → ℕ → Type 0) → ℕ → Connection C S → Type 0
EndsWithin has_shown nanos c = (time : ℕ) × has_shown c.clock time × (as_nanos c.end ≤ time + nanos)

-- a clock has shown a time from which these limits can't be counted
abbrev pub IsTooLate : {C : Type 0} (has_shown : C → ℕ → Type 0) → C → Limits → Type 0
IsTooLate has_shown clock limits = (time : ℕ) × has_shown clock time
    × ((FitsDuration (time + limits.whole_seconds * 1_000_000_000) → ⊥) ⊎ (FitsDuration (time + limits.most_seconds * 1_000_000_000) → ⊥))

-- what a connection still gave was read: to its end, or 64 MiB of it at least
pub record IsReadOn {C S : Type 0} (remaining : S → Option (List ℕ)) (old new : Connection C S) : Type 0 where
  pub bytes : List ℕ
  pub read : Consumes (remaining old.stream) (remaining new.stream) bytes
  pub whole : IsAtEnd (remaining new.stream) ⊎ (67_108_864 ≤ length bytes)

-- the other end was told that no more is sent, and then what it still sent was read
pub record IsClosed {C S : Type 0} (is_ended : S → Type 0) (remaining : S → Option (List ℕ)) (old new : Connection C S) : Type 0 where
  pub ended : is_ended new.stream
  pub read : IsReadOn remaining old new
