use Rattle.std.proofs.Common.{◌≡◌, ◌||◌, ℕ, List, true, take}
use Rattle.std.specs.BTreeSet as set
use Rattle.tw_model.specs.Maps.{bytes_cmp}
use Rattle.tw_model.specs.Places.{has_uuid}
use Rattle.tw_state.specs.Touched.{is_touched_by_synced}
use Rattle.tw_state.proofs.touched.add_all_synced.Given as goal

abbrev pub invariant-loop-op : goal.invariant-loop-op
invariant-loop-op l = ((u : List ℕ) → set.contains bytes_cmp l.touched u ≡ (set.contains bytes_cmp l.fn.touched u || is_touched_by_synced (take l.op-index l.ops.items) u)) × ((u : List ℕ) → has_uuid u l.last ≡ true → set.contains bytes_cmp l.touched u ≡ true)
