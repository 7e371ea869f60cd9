use Rattle.std.proofs.Common.{◌≡◌, ◌++◌, drop, filter, not}
use Rattle.std.specs.List.{list_any}
use Rattle.tw_world.specs.Folder.{same_bytes}
use Rattle.timew_interval.proofs.interval.tags.without_all.Given as goal

abbrev pub invariant-loop-tag : goal.invariant-loop-tag
invariant-loop-tag l = l.left.items ++ filter (λ tag. not (list_any (same_bytes tag) l.others.items)) (drop l.tag-index l.tags.items) ≡ filter (λ tag. not (list_any (same_bytes tag) l.others.items)) l.tags.items
