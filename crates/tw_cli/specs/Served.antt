-- An exchange of a server as an event of a world.
use Rattle.std.specs.Prelude.{◌≡◌, ◌⊎◌, ℕ, IsTrue, false, List}
use Rattle.tw_world.specs.Disk.{DiskModel, LeavesOnly}
use Rattle.tw_world.specs.Peer.{PeerModel}
use Rattle.tw_protocol.specs.Chain.{Version}
use Rattle.tw_http.specs.Serving.{client_of}
use Rattle.tw_http.specs.declared.message.Request.{Request}
use Rattle.tw_records.specs.Log.{Log, chain_of}
use Rattle.tw_server.specs.Server.{HoldsLog, IsServerOn, is_closed, drawn_id}
use Rattle.tw_server.specs.Serve.{IsAsked, IsStepOn}
use Rattle.tw_server.specs.declared.server.Server.{Server}
use Rattle.tw_sync.specs.Theorem.{World, Answers}

-- a log in which a client has one of these chains
abbrev pub HasEither : (client : List ℕ) (chain now : List Version) → Log → Type 0
HasEither client chain now log = (chain_of client log.versions ≡ chain) ⊎ (chain_of client log.versions ≡ now)

-- a file of such a log
abbrev pub HoldsEither : (client : List ℕ) (chain now : List Version) → List ℕ → Type 0
HoldsEither client chain now file = (log : Log) × HoldsLog log file × HasEither client chain now log

module _ {D : Type 0} (m : DiskModel D) (new : Server) (d0 d1 : D) where
  -- The request is an event of a world, which leads to another. What a crash leaves of the exchange at any moment has the client's chain of the one
  -- world or of the other, and so has the server after it, unless a fault of the disk has closed it
  pub record IsAnswerIn (request : Request) (id : List ℕ) (world : World) : Type 0 where
    pub after : World
    pub event : Answers request id world after
    pub moments : LeavesOnly m d0 d1 (HoldsEither (client_of request) world.chain after.chain)
    pub stands : is_closed new ≡ false → (log : Log) × IsServerOn m new d1 log × HasEither (client_of request) world.chain after.chain log

  -- the peer asked this, if it tells its bytes, which is an event of each world whose chain is that of the request's client
  pub record IsEvent {P : Type 0} (p : PeerModel P) (peer : P) (log : Log) (id : List ℕ) : Type 0 where
    pub request : Request
    pub asked : IsAsked p peer request
    pub event : IsTrue (p.tells peer) → (world : World) → world.chain ≡ chain_of (client_of request) log.versions → IsAnswerIn request id world

  -- all that a crash leaves has this log, and so has the server after the exchange
  pub record KeepsLog (log : Log) : Type 0 where
    pub moments : LeavesOnly m d0 d1 (HoldsLog log)
    pub stands : is_closed new ≡ false → IsServerOn m new d1 log

-- an exchange with a server whose ids start here changed nothing, or what the peer asked is an event
abbrev pub ServedIsEvent : {D P : Type 0} → DiskModel D → PeerModel P → (start : ℕ) → Type 0
ServedIsEvent {D} {P} m p start = (old new : Server) (d0 d1 : D) (peer : P) (log : Log) → IsServerOn m old d0 log
    → IsStepOn m old new d0 d1 (IsAsked p peer) (drawn_id start) → KeepsLog m new d0 d1 log ⊎ IsEvent m new d0 d1 p peer log (drawn_id start)
