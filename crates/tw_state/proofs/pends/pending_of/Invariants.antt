use Rattle.std.proofs.Common.{◌≡◌, ◌≤◌, ◌-◌, ◌++◌, true, length, take, drop}
use Rattle.tw_bodies.specs.Body.{is_group}
use Rattle.tw_state.specs.State.{begins_with_point}
use Rattle.tw_state.proofs.pends.pending_of.Given as goal

abbrev pub invariant-loop-at : goal.invariant-loop-at
invariant-loop-at l = record {
  all : l.pending ++ l.command.items ≡ take l.at l.ops.items;
  inside : l.at ≤ length l.ops.items;
  group : is_group l.command.items ≡ true;
  begins : begins_with_point (l.command.items ++ drop l.at l.ops.items) ≡ true;
}

abbrev pub decreases-loop-at : goal.decreases-loop-at
decreases-loop-at l = length l.ops.items - l.at
