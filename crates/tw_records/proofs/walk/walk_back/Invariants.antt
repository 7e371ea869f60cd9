use Rattle.std.proofs.Common.{◌≡◌, ◌≤◌, ℕ, List, length, map}
use Rattle.tw_records.specs.Bodies.{block_size, kind_in}
use Rattle.tw_records.proofs.Walks.{IsWalked}
use Rattle.tw_records.proofs.walk.walk_back.Given as goal

abbrev pub invariant-loop-n : goal.invariant-loop-n
invariant-loop-n l = record {
  within : l.n ≤ length l.kinds;
  walked : (bodies : List (List ℕ)) (same : l.kinds ≡ map kind_in bodies) → IsWalked block_size bodies l.kinds same l.n l.walk.passing l.walk.block l.found.items;
}

abbrev pub decreases-loop-n : goal.decreases-loop-n
decreases-loop-n l = l.n
