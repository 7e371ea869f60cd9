use Rattle.std.proofs.Common.{◌≡◌, ◌-◌, ◌||◌, ℕ, List, true, length, drop}
use Rattle.std.specs.BTreeSet as set
use Rattle.tw_model.specs.Maps.{bytes_cmp}
use Rattle.tw_model.specs.Places.{has_uuid}
use Rattle.tw_state.specs.Touched.{is_touched}
use Rattle.tw_state.proofs.touched.touched_uuids.Given as goal

abbrev pub invariant-loop-at : goal.invariant-loop-at
invariant-loop-at l = ((u : List ℕ) → set.contains bytes_cmp l.touched u || is_touched (drop l.at l.ops.items) u ≡ is_touched (drop l.from l.ops.items) u) × ((u : List ℕ) → has_uuid u l.last ≡ true → set.contains bytes_cmp l.touched u ≡ true)

abbrev pub decreases-loop-at : goal.decreases-loop-at
decreases-loop-at l = length l.ops.items - l.at
