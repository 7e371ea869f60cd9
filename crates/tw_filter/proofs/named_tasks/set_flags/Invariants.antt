-- the flags before a place are set, and the others are as they were
use Rattle.std.proofs.Common.{◌≡◌, ℕ, ◌+◌, ◌-◌, ◌<◌, ◌≤◌, nat_le, nat_lt, ◌&&◌, ◌||◌, false, length, get_or, max}
use Rattle.tw_filter.proofs.named_tasks.set_flags.Given as goal

abbrev pub invariant-loop-at : goal.invariant-loop-at
invariant-loop-at l = record {
  as_many : length l.flags.items ≡ length l.fn.flags.items;
  from : l.first ≤ l.at + 1;
  to : l.at ≤ max l.end (l.first - 1);
  set : (k : ℕ) → k < length l.fn.flags.items → get_or l.flags.items k false ≡ (get_or l.fn.flags.items k false || (nat_le l.first (k + 1) && nat_lt k l.at));
}

abbrev pub decreases-loop-at : goal.decreases-loop-at
decreases-loop-at l = length l.flags.items - l.at
