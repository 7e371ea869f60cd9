use Rattle.std.proofs.Common.{◌≡◌, ◌++◌, drop}
use Rattle.std.specs.List.{flat_map, AllByRecursion}
use Rattle.std.specs.FinMap as map
use Rattle.tw_bodies.specs.Body.{pair_bytes, IsPair, IsTask}
use Rattle.tw_bodies.proofs.task.put_pairs.Given as goal

abbrev pub invariant-loop-n : goal.invariant-loop-n
invariant-loop-n l = (l.out.items ++ flat_map pair_bytes (drop l.n (map.entries l.task)) ≡ l.fn.out.items ++ flat_map pair_bytes (map.entries l.task)) × (AllByRecursion IsPair (drop l.n (map.entries l.task)) → IsTask l.task)
