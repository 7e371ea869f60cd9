-- the uuids that have flags where the places from one on are all that there are
use Rattle.std.proofs.Common.{◌≡◌, ◌≤◌, ◌+◌, ◌-◌, ℕ, List, drop, length, get_or, false}
use Rattle.std.specs.BTreeSet as set
use Rattle.tw_model.specs.Maps.{bytes_cmp}
use Rattle.tw_model.specs.Places.{id_from}
use Rattle.tw_terms.specs.Holds.{passes}
use Rattle.tw_filter.proofs.named_tasks.flagged.Given as goal

abbrev pub invariant-loop-at : goal.invariant-loop-at
invariant-loop-at l = record {
  within : l.at ≤ length l.places.items;
  known : (u : List ℕ) → set.contains bytes_cmp l.uuids u ≡ passes (λ id. get_or l.flags.items (id - 1) false) (id_from (l.at + 1) u (drop l.at l.places.items));
}

abbrev pub decreases-loop-at : goal.decreases-loop-at
decreases-loop-at l = l.at
