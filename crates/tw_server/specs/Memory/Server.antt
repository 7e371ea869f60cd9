-- What a server in memory holds.
use Rattle.std.specs.Prelude.{ℕ, []}
use Rattle.tw_server.specs.Memory.Holding.{Holding}
use Rattle.tw_server.specs.declared.memory.server.MemoryServer.{MemoryServer}

abbrev pub holding_of : MemoryServer → Holding
holding_of s = record { versions = s.versions.items; snapshots = s.snapshots.items; start = s.ids.start; step = s.ids.step }

abbrev pub nothing_held : ℕ → ℕ → Holding
nothing_held start step = record { versions = []; snapshots = []; start = start; step = step }
