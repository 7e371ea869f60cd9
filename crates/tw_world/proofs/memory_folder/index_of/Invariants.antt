use Rattle.std.proofs.Common.{map}
use Rattle.std.specs.String.{string_bytes}
use Rattle.tw_world.specs.Folder.{AreBelow}
use Rattle.tw_world.proofs.memory_folder.index_of.Given as goal

abbrev pub invariant-loop-at : goal.invariant-loop-at
invariant-loop-at l = AreBelow l.name (map string_bytes l.names.items) l.at
