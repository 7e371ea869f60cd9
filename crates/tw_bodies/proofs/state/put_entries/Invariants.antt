use Rattle.std.proofs.Common.{◌≡◌, ◌++◌}
use Rattle.std.specs.List.{flat_map, AllByRecursion}
use Rattle.std.specs.FinMap as map
use Rattle.tw_bodies.specs.Body.{entry_bytes, IsEntry}
use Rattle.tw_bodies.proofs.state.put_entries.Given as goal

abbrev pub invariant-loop-uuid : goal.invariant-loop-uuid
invariant-loop-uuid l = (l.out.items ++ flat_map entry_bytes l.uuid-iterator ≡ l.fn.out.items ++ flat_map entry_bytes (map.entries l.tasks)) × (AllByRecursion IsEntry l.uuid-iterator → AllByRecursion IsEntry (map.entries l.tasks))
