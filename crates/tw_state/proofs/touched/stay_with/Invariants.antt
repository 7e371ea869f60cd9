use Rattle.std.proofs.Common.{◌≡◌, ◌-◌, ℕ, List, true, length, drop}
use Rattle.tw_model.specs.Maps.{same_bytes}
use Rattle.tw_state.specs.Touched.{is_touched}
use Rattle.tw_state.proofs.touched.stay_with.Given as goal

abbrev pub invariant-loop-at : goal.invariant-loop-at
invariant-loop-at l = ((u : List ℕ) → is_touched (drop l.at l.ops.items) u ≡ true → same_bytes u l.uuid ≡ true) → (u : List ℕ) → is_touched (drop l.from l.ops.items) u ≡ true → same_bytes u l.uuid ≡ true

abbrev pub decreases-loop-at : goal.decreases-loop-at
decreases-loop-at l = length l.ops.items - l.at
