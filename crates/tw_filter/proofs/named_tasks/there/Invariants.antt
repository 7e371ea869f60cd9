-- what was found and what is left to be found
use Rattle.std.proofs.Common.{◌≡◌, ◌++◌, filter, is_some}
use Rattle.std.specs.FinMap.{get}
use Rattle.tw_filter.proofs.named_tasks.there.Given as goal

abbrev pub invariant-loop-uuid : goal.invariant-loop-uuid
invariant-loop-uuid l = l.found.items ++ filter (λ u. is_some (get l.tasks u)) l.uuid-iterator ≡ filter (λ u. is_some (get l.tasks u)) l.uuids.keys
