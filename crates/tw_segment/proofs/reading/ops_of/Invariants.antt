use Rattle.std.proofs.Common.{◌≡◌, ◌+◌, ◌++◌, drop, length, option_map}
use Rattle.serde_json.specs.View.{items_view}
use Rattle.tw_segment.specs.Segment.{ops_of, bad_index}
use Rattle.tw_segment.proofs.reading.ops_of.Given as goal

abbrev pub invariant-loop-value : goal.invariant-loop-value
invariant-loop-value l = record {
  read : ops_of (items_view l.values.items) ≡ option_map (λ more. l.ops.items ++ more) (ops_of (items_view (drop l.value-index l.values.items)));
  place : bad_index (items_view l.values.items) ≡ option_map (λ p. l.value-index + p) (bad_index (items_view (drop l.value-index l.values.items)));
  count : length l.ops.items ≡ l.value-index;
}
