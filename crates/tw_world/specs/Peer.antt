-- What the other end of a line still gives, and what it got, if it tells it.
use Rattle.std.specs.Prelude.{◌≡◌, ℕ, Bool, IsTrue, List}
use Rattle.tw_world.specs.Source.{SourceModel}
use Rattle.tw_world.specs.Sink.{SinkModel}

pub record PeerModel (P : Type 0) : Type 1 where
  -- how often it has failed, in reading and writing
  pub faults : P → ℕ
  -- does it tell what it holds?
  pub tells : P → Bool
  -- the bytes that are still to be read
  pub rest : P → List ℕ
  -- the bytes written to it
  pub held : P → List ℕ

-- the peer as a source
abbrev pub source_of : {P : Type 0} → PeerModel P → SourceModel P
source_of m = record { faults = m.faults; tells = m.tells; rest = m.rest }

-- the peer as a sink
abbrev pub sink_of : {P : Type 0} → PeerModel P → SinkModel P
sink_of m = record { faults = m.faults; tells = m.tells; held = m.held }

-- what is to be read stays
abbrev pub SameRest : {P : Type 0} → PeerModel P → P → P → Type 0
SameRest m old new = IsTrue (m.tells old) → m.rest new ≡ m.rest old

-- what was written stays
abbrev pub SameHeld : {P : Type 0} → PeerModel P → P → P → Type 0
SameHeld m old new = IsTrue (m.tells old) → m.held new ≡ m.held old
