use Rattle.std.proofs.Common.{◌≡◌, take, map}
use Rattle.std.specs.String.{string_bytes}
use Rattle.std.specs.FinMap.{keys, empty}
use Rattle.tw_world.specs.MemoryFolder.{after}
use Rattle.tw_world.proofs.memory_folder.names_of.Given as goal

abbrev pub invariant-loop-put : goal.invariant-loop-put
invariant-loop-put l = map string_bytes l.names.items ≡ keys (after empty (take l.put-index l.puts.items))
