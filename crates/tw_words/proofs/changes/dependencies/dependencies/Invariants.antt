-- the names of the dependencies passed
use Rattle.std.proofs.Common.{◌≡◌, filter, take, is_some}
use Rattle.std.specs.FinMap.{keys}
use Rattle.tw_urgency.specs.Dependencies.{dependency_in}
use Rattle.tw_words.proofs.changes.dependencies.dependencies.Given as goal

abbrev pub invariant-loop-n : goal.invariant-loop-n
invariant-loop-n l = l.names.items ≡ filter (λ name. is_some (dependency_in name)) (take l.n (keys l.task))
