-- the names left, taken out of the task, give what all give
use Rattle.std.proofs.Common.{◌≡◌, drop}
use Rattle.tw_words.specs.Changed.{without, dependencies}
use Rattle.tw_words.proofs.changes.dependencies.clear_dependencies.Given as goal

abbrev pub invariant-loop-name : goal.invariant-loop-name
invariant-loop-name l = without (drop l.name-index l.name-items) l.task ≡ without (dependencies l.fn.task) l.fn.task
