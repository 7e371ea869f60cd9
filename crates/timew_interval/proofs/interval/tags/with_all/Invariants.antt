use Rattle.std.proofs.Common.{◌≡◌, drop, fold}
use Rattle.tw_world.specs.Folder.{add_name as add_tag}
use Rattle.timew_interval.proofs.interval.tags.with_all.Given as goal

abbrev pub invariant-loop-tag : goal.invariant-loop-tag
invariant-loop-tag l = fold (λ had tag. add_tag tag had) l.tags.items (drop l.tag-index l.others.items) ≡ fold (λ had tag. add_tag tag had) l.fn.tags.items l.others.items
