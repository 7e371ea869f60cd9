-- the numbers that are known are those in the range at the places from one on
use Rattle.std.proofs.Common.{◌≡◌, ◌≤◌, ◌+◌, ℕ, List, drop, length}
use Rattle.std.specs.BTreeMap as tree
use Rattle.tw_model.specs.Maps.{bytes_cmp}
use Rattle.tw_model.specs.Places.{id_from}
use Rattle.tw_terms.specs.Facts.{within}
use Rattle.tw_terms.proofs.id_range.ids_within.Given as goal

abbrev pub invariant-loop-at : goal.invariant-loop-at
invariant-loop-at l = record {
  inside : l.at ≤ length l.numbers.items;
  known : (u : List ℕ) → tree.get bytes_cmp l.ids u ≡ within l.first l.last (id_from (l.at + 1) u (drop l.at l.numbers.items));
}

abbrev pub decreases-loop-at : goal.decreases-loop-at
decreases-loop-at l = l.at
