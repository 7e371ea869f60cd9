use Rattle.std.proofs.Common.{◌≡◌, ◌||◌, ℕ, List, map}
use Rattle.std.specs.BTreeSet as set
use Rattle.std.specs.FinMap.{keys}
use Rattle.tw_model.specs.Maps.{bytes_cmp}
use Rattle.tw_numbers.specs.Assigned.{is_among}
use Rattle.tw_numbers.proofs.FirstPlaces.{uuid_in}
use Rattle.tw_replica.proofs.keeping.finish_from.add_tasks.Given as goal

abbrev pub invariant-loop-uuid : goal.invariant-loop-uuid
invariant-loop-uuid l = (u : List ℕ) → (set.contains bytes_cmp l.touched u || is_among (map uuid_in l.uuid-iterator) u) ≡ (set.contains bytes_cmp l.fn.touched u || is_among (keys l.tasks) u)
