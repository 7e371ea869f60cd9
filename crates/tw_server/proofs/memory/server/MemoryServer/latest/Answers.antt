use Rattle.tw_server.specs.Memory.Holding.{log_of}
use Rattle.tw_server.proofs.memory.server.MemoryServer.latest.Goals as goal

pub returns : goal.returns
returns c = let server = c.args.self.now in c.latest.ensures (log_of server.versions.items server.snapshots.items) server.known
