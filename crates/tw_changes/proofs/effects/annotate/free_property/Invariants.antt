use Rattle.std.proofs.Common.{◌≡◌, ◌+◌, ◌≤◌, ◌^◌, string_bytes}
use Rattle.std.specs.FinMap.{len}
use Rattle.tw_changes.specs.Effects.Annotate.{annotation_at, free_second}
use Rattle.tw_changes.proofs.effects.annotate.free_property.Given as goal

abbrev pub invariant-loop-more : goal.invariant-loop-more
invariant-loop-more l = record {
  name : string_bytes l.name ≡ annotation_at l.second;
  free : free_second l.more l.task l.second ≡ free_second (len l.task) l.task l.fn.now.seconds;
  low : l.second + l.more ≤ 2 ^ 100;
}

abbrev pub decreases-loop-more : goal.decreases-loop-more
decreases-loop-more l = l.more
