use Rattle.std.proofs.Common.{◌≡◌, ◌++◌, take, drop}
use Rattle.std.specs.List.{flat_map, AllByRecursion}
use Rattle.tw_bodies.specs.Body.{place_bytes, IsPlace}
use Rattle.tw_bodies.proofs.state.put_places.Given as goal

abbrev pub invariant-loop-place : goal.invariant-loop-place
invariant-loop-place l = (l.out.items ≡ l.fn.out.items ++ flat_map place_bytes (take l.place-index l.places.items)) × (AllByRecursion IsPlace (drop l.place-index l.places.items) → AllByRecursion IsPlace l.places.items)
