-- One exchange with a server.
use Rattle.std.specs.Prelude.{◌⊎◌, ℕ, ◌+◌, List, Option, Result, Ok, Err}
use Rattle.std.specs.Io.KnownBytes.{Appends, Consumes}
use Rattle.std.specs.declared.net.socket_addr.SocketAddr.{SocketAddr}
use Rattle.tw_streams.specs.declared.connection.Connection.{Connection}
use Rattle.tw_streams.specs.declared.connection.Limits.{Limits}
use Rattle.tw_streams.specs.Waits.{Begins}
use Rattle.tw_streams.specs.Framing.{EndsAt, IsWhole, IsNoMore}

-- how long a server may be silent, and take for all: without bytes, and at most
abbrev pub client_limits : Limits
client_limits = record { silence_seconds = 30; whole_seconds = 120; most_seconds = 600 }

-- whether a stream leads to an address, for which it was to wait so many nanoseconds at most
abbrev pub Leads : Type 0 → Type 1
Leads S = S → SocketAddr → ℕ → Type 0

-- the bytes of a stream, if they are known
abbrev pub Known : Type 0 → Type 0
Known S = S → Option (List ℕ)

-- a new connection to one of these addresses, within 30 seconds
pub record Dialled {C S : Type 0} (is_of : SocketAddr → Type 0) (leads_to : Leads S) (has_shown : C → ℕ → Type 0) (connection : Connection C S) : Type 0 where
  pub address : SocketAddr
  pub one_of : is_of address
  pub led : leads_to connection.stream address 30_000_000_000
  pub limited : Begins has_shown client_limits connection

-- a stream got the request, and gave the reply, whole and no more
pub record Exchanged {S : Type 0} (contents remaining : Known S) (ends_at : EndsAt) (request reply : List ℕ) (begun ended : S) : Type 0 where
  pub sent : S
  pub got : Appends (contents begun) (contents sent) request
  pub read : Consumes (remaining sent) (remaining ended) reply
  pub whole : IsWhole ends_at (remaining ended) reply
  pub no_more : IsNoMore ends_at reply

-- a connection that begins so has exchanged this
pub record Asked {C S : Type 0} (Begun : Connection C S → Type 0) (Exchanges : (begun ended : S) → Type 0) : Type 0 where
  pub connection : Connection C S
  pub ended : S
  pub begun : Begun connection
  pub exchanged : Exchanges connection.stream ended

-- one connection was opened; or none, if nothing came of it
abbrev pub OpensOne : {D A E : Type 0} → (has_opened : D → ℕ → Type 0) → (old new : D) → Result A E → Type 0
OpensOne has_opened old new (Ok x) = (n : ℕ) → has_opened old n → has_opened new (n + 1)
OpensOne has_opened old new (Err e) = (n : ℕ) → has_opened old n → has_opened new n ⊎ has_opened new (n + 1)
