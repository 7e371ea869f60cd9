-- what is left gives what all give
use Rattle.std.proofs.Common.{◌≡◌, drop}
use Rattle.std.specs.List.{list_any}
use Rattle.std.specs.FinMap.{keys}
use Rattle.tw_urgency.specs.Dependencies.{dependency_in, is_pending_one}
use Rattle.tw_urgency.proofs.dependencies.has_pending_dependency.Given as goal

abbrev pub invariant-loop-n : goal.invariant-loop-n
invariant-loop-n l = list_any (λ name. is_pending_one l.tasks (dependency_in name)) (drop l.n (keys l.task)) ≡ list_any (λ name. is_pending_one l.tasks (dependency_in name)) (keys l.task)
