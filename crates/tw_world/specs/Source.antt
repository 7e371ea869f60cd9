-- What a source still has to give, if it tells it.
use Rattle.std.specs.Prelude.{◌≡◌, ◌≤◌, ℕ, Bool, IsTrue, List, [], length, take, drop}

pub record SourceModel (S : Type 0) : Type 1 where
  -- how often it has failed
  pub faults : S → ℕ
  -- does it tell what it holds?
  pub tells : S → Bool
  -- the bytes that are still to be read
  pub rest : S → List ℕ

abbrev pub TellsRest : {S : Type 0} → SourceModel S → S → Type 0
TellsRest m source = IsTrue (m.tells source)

-- what every call keeps
pub record SourceKept {S : Type 0} (m : SourceModel S) (old new : S) : Type 0 where
  pub faults : m.faults old ≤ m.faults new
  pub tells : m.tells new ≡ m.tells old

-- the first so many of the bytes were read into the front of a buffer: none only if there were none
pub record IsFront (before after buffer : List ℕ) (count : ℕ) : Type 0 where
  pub bytes : take count buffer ≡ take count before
  pub rest : after ≡ drop count before
  pub there : count ≤ length before
  pub end : count ≡ 0 → before ≡ []

-- it gave so many bytes into a buffer
abbrev pub Gave : {S : Type 0} → SourceModel S → S → S → List ℕ → ℕ → Type 0
Gave m old new buffer count = TellsRest m old → IsFront (m.rest old) (m.rest new) buffer count

-- it gave nothing
abbrev pub GaveNothing : {S : Type 0} → SourceModel S → S → S → (before after : List ℕ) → Type 0
GaveNothing m old new before after = TellsRest m old → (m.rest new ≡ m.rest old) × (after ≡ before)
