use Rattle.std.proofs.Common.{refl}
use Rattle.tw_world.proofs.Puts.{reads_only}
use Rattle.tw_world.proofs.memory_folder.MemoryFolderFolder.names.Goals as goal

pub returns-then-begin-clause-reads : goal.returns-then-begin-clause-reads
returns-then-begin-clause-reads c = reads_only c.args.self.now _ refl c.begin.ensures.later

pub returns-in-Ok-clause-reads : goal.returns-in-Ok-clause-reads
returns-in-Ok-clause-reads c = reads_only c.args.self.now _ refl c.begin.ensures.later

pub returns-in-Err-clause-reads : goal.returns-in-Err-clause-reads
returns-in-Err-clause-reads c = reads_only c.args.self.now _ refl c.begin.ensures.later
