use Rattle.std.proofs.Common.{◌≡◌, ◌≤◌, ◌||◌, ℕ, List, length, take}
use Rattle.tw_model.specs.LocalOps.{take_back_all}
use Rattle.tw_state.specs.Groups.{groups_in}
use Rattle.tw_numbers.specs.Assigned.{is_among}
use Rattle.tw_state.specs.Touched.{is_touched}
use Rattle.tw_state.proofs.pending.take_bodies_back.Given as goal

abbrev pub invariant-loop-at : goal.invariant-loop-at
invariant-loop-at l = record {
  inside : l.at ≤ length l.bodies.items;
  tasks : take_back_all l.tasks (groups_in (take l.at l.bodies.items)) ≡ take_back_all l.fn.tasks (groups_in l.bodies.items);
  touched : (u : List ℕ) → is_among l.touched.keys u || is_touched (groups_in (take l.at l.bodies.items)) u ≡ is_touched (groups_in l.bodies.items) u;
}

abbrev pub decreases-loop-at : goal.decreases-loop-at
decreases-loop-at l = l.at
