use Rattle.std.proofs.Common.{◌≡◌, drop, None, option_map}
use Rattle.tw_world.specs.MemoryFolder.{last_put}
use Rattle.tw_world.proofs.memory_folder.last_put.Given as goal

abbrev pub invariant-loop-put : goal.invariant-loop-put
invariant-loop-put l = last_put l.name (drop l.put-index l.puts.items) (option_map (λ bytes. bytes.items) l.found) ≡ last_put l.name l.puts.items None
