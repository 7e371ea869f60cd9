use Rattle.std.proofs.Common.{◌≡◌, ◌||◌, ℕ, List, length}
use Rattle.std.specs.BTreeSet as set
use Rattle.tw_model.specs.Maps.{bytes_cmp}
use Rattle.tw_state.specs.Touched.{is_touched_by_synced}
use Rattle.tw_state.proofs.touched.synced_uuids.Given as goal

abbrev pub invariant-loop-unread : goal.invariant-loop-unread
invariant-loop-unread l = (u : List ℕ) → set.contains bytes_cmp l.touched u || is_touched_by_synced l.unread u ≡ is_touched_by_synced l.ops u

abbrev pub decreases-loop-unread : goal.decreases-loop-unread
decreases-loop-unread l = length l.unread
