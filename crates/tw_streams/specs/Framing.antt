-- How much of a stream is a reply.
use Rattle.std.specs.Prelude.{◌≡◌, ◌⊎◌, ℕ, ◌++◌, ◌≤◌, List, Option, length}
use Rattle.std.specs.Io.KnownBytes.{IsAtEnd}

-- whether the reply that bytes begin has so many of them
abbrev pub EndsAt : Type 1
EndsAt = List ℕ → ℕ → Type 0

-- the bytes of the longest reply: a head of 16,384 and a body of 16,777,216
abbrev pub longest : ℕ
longest = 16_793_600

-- these are the bytes of a whole reply, or as many as the longest has
abbrev pub IsLong : EndsAt → List ℕ → Type 0
IsLong ends_at bytes = (length bytes ≡ longest) ⊎ ((n : ℕ) × ends_at bytes n × (n ≤ length bytes))

-- a reply was read to its end, or to that of the stream, or as many bytes as the longest reply has
abbrev pub IsWhole : EndsAt → (rest : Option (List ℕ)) → List ℕ → Type 0
IsWhole ends_at rest reply = IsAtEnd rest ⊎ IsLong ends_at reply

-- Bytes after the end of a reply were read only in the piece before which that end was not known.
pub record IsNoMore (ends_at : EndsAt) (reply : List ℕ) : Type 0 where
  pub before : List ℕ
  pub piece : List ℕ
  pub read : reply ≡ before ++ piece
  pub short : length piece ≤ 65_536
  pub known : (n : ℕ) → ends_at before n → length reply ≤ n
