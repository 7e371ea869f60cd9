use Rattle.tw_world.specs.Folder.{AreBelow}
use Rattle.timew_interval.proofs.interval.tags.index_of.Given as goal

abbrev pub invariant-loop-at : goal.invariant-loop-at
invariant-loop-at l = AreBelow l.tag l.tags.items l.at
