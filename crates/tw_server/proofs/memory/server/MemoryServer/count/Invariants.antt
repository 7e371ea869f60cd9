use Rattle.std.proofs.Common.{◌≡◌, ◌+◌, ◌≤◌, drop, length, map}
use Rattle.tw_records.specs.Log.{chain_of}
use Rattle.tw_server.specs.Memory.Holding.{accepted_of}
use Rattle.tw_server.proofs.memory.server.MemoryServer.count.Given as goal

abbrev pub invariant-loop-version : goal.invariant-loop-version
invariant-loop-version l = (l.count + length (chain_of l.client (map accepted_of (drop l.version-index l.self.versions.items))) ≡ length (chain_of l.client (map accepted_of l.self.versions.items))) × (l.count ≤ l.version-index)
