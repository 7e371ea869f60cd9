use Rattle.std.proofs.Common.{◌≡◌, drop}
use Rattle.std.specs.FinMap.{entries}
use Rattle.timew_bridge.specs.Label.{with_texts, label}
use Rattle.timew_bridge.proofs.label.texts_of.Given as goal

abbrev pub invariant-loop-n : goal.invariant-loop-n
invariant-loop-n l = with_texts l.tags.keys (drop l.n (entries l.task)) ≡ label l.task
