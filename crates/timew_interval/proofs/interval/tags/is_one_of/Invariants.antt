use Rattle.std.proofs.Common.{◌≡◌, drop}
use Rattle.std.specs.List.{list_any}
use Rattle.tw_world.specs.Folder.{same_bytes}
use Rattle.timew_interval.proofs.interval.tags.is_one_of.Given as goal

abbrev pub invariant-loop-other : goal.invariant-loop-other
invariant-loop-other l = list_any (same_bytes l.tag) (drop l.other-index l.tags.items) ≡ list_any (same_bytes l.tag) l.tags.items
