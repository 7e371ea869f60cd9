use Rattle.std.proofs.Common.{refl, ◌∙◌, sym, ap}
use Rattle.std.specs.FinMap.{empty, get-empty}
use Rattle.tw_world.specs.Folder.{bytes_cmp}
use Rattle.tw_world.specs.MemoryFolder.{last_put}
use Rattle.tw_world.proofs.Puts.{reads_only, get-after}
use Rattle.tw_world.proofs.memory_folder.MemoryFolderFolder.read.Goals as goal

pub returns-then-begin-clause-reads : goal.returns-then-begin-clause-reads
returns-then-begin-clause-reads c = reads_only c.args.self.now _ refl c.begin.ensures.later

pub returns-in-Ok-clause-bytes : goal.returns-in-Ok-clause-bytes
returns-in-Ok-clause-bytes c = λ tells. c.in-Ok.ensures ∙ ap (last_put c.args.name.now c.args.self.now.puts.items) (sym (get-empty bytes_cmp c.args.name.now)) ∙ sym (get-after c.args.self.now.puts.items empty c.args.name.now)

pub returns-in-Ok-clause-reads : goal.returns-in-Ok-clause-reads
returns-in-Ok-clause-reads c = reads_only c.args.self.now _ refl c.begin.ensures.later

pub returns-in-Err-clause-reads : goal.returns-in-Err-clause-reads
returns-in-Err-clause-reads c = reads_only c.args.self.now _ refl c.begin.ensures.later
