use Rattle.std.proofs.Common.{◌≡◌, drop}
use Rattle.tw_check.specs.Look.{update_after, last_update}
use Rattle.tw_check.proofs.holding.last_update.Given as goal

abbrev pub invariant-loop-n : goal.invariant-loop-n
invariant-loop-n l = update_after l.last (drop l.n l.ops.items) ≡ last_update l.ops.items
