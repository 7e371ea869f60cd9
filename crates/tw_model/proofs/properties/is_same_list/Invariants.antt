use Rattle.std.proofs.Common.{◌≡◌, drop, length}
use lib.Pointwise.{pointwise}
use Rattle.tw_model.specs.LocalOps.{same_property}
use Rattle.tw_model.proofs.properties.is_same_list.Given as goal

abbrev pub invariant-loop-i : goal.invariant-loop-i
invariant-loop-i l = record {
  lengths : length l.a.items ≡ length l.b.items;
  rest : pointwise same_property (drop l.i l.a.items) (drop l.i l.b.items) ≡ pointwise same_property l.a.items l.b.items;
}
