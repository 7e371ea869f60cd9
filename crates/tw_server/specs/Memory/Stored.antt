-- What a server in memory stores of an answer.
use Rattle.std.specs.Prelude.{List, [], ◌∷◌}
use Rattle.tw_server.specs.declared.memory.server.MemoryVersion.{MemoryVersion}
use Rattle.tw_server.specs.declared.memory.server.MemorySnapshot.{MemorySnapshot}
use Rattle.tw_server.specs.declared.memory.server.Stored.{Stored}
use Rattle.tw_server.specs.declared.memory.server.Stored.TheVariants.{Version, Snapshot, Nothing}

abbrev pub versions_in : Stored → List MemoryVersion
versions_in (Version version) = version ∷ []
versions_in (Snapshot snapshot) = []
versions_in Nothing = []

abbrev pub snapshots_in : Stored → List MemorySnapshot
snapshots_in (Version version) = []
snapshots_in (Snapshot snapshot) = snapshot ∷ []
snapshots_in Nothing = []
