-- Replicas over disks in memory, and what they and their server hold.
use Rattle.std.specs.Prelude.{ℕ, ◌+◌, ◌*◌, ◌^◌, List, []}
use Rattle.tw_world.specs.Memory.{memory_model}
use Rattle.tw_http.specs.Link.{IsHonest}
use Rattle.tw_replica.specs.Replica.{IsReplicaOn, held_state}
use Rattle.tw_server.specs.Memory.Link.{IsNewLink}
use Rattle.tw_sync.specs.Sync.{server_chain}
use Rattle.tw_generate.specs.Generated.{World}
use Rattle.tw_generate.specs.Links.{lone_link_model, memory_link}
use Rattle.tw_generate.specs.declared.link.LoneLink.{LoneLink}
use Rattle.tw_generate.specs.declared.machine.Machine.{Machine}
use Rattle.tw_generate.specs.declared.network.Network.{Network}
use Rattle.tw_generate.specs.declared.machine.TheConstants.{CLIENT}

-- the replica is open on its disk, and its records lead to what it holds
abbrev pub IsOpen : Machine → Type 0
IsOpen machine = (bodies : List (List ℕ)) × IsReplicaOn memory_model machine.replica machine.disk bodies

-- both replicas are open, and the link tells the chain of their client truly
pub record IsConnected (network : Network) : Type 0 where
  pub first : IsOpen network.first
  pub second : IsOpen network.second
  pub link : IsHonest lone_link_model network.link CLIENT

-- a link to a server without versions, which draws its ids from the words after those of so many tasks
abbrev pub DrawsAfter : (seed count : ℕ) → LoneLink → Type 0
DrawsAfter seed count link = IsNewLink CLIENT (record { start = seed * 2 ^ 64 + count; step = 1 }) [] (memory_link link)

-- what they hold
abbrev pub world_of : Network → World
world_of network =
    record { first = held_state network.first.replica; second = held_state network.second.replica; server = server_chain lone_link_model network.link }
