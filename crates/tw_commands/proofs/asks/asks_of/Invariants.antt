-- what is asked so far, and about the changes that are left, is all
use Rattle.std.proofs.Common.{◌≡◌, ◌++◌, drop}
use Rattle.tw_commands.specs.Asks.{asks_of}
use Rattle.tw_commands.proofs.asks.asks_of.Given as goal

abbrev pub invariant-loop-change : goal.invariant-loop-change
invariant-loop-change l = l.asks.items ++ asks_of l.tasks (drop l.change-index l.changes.items) ≡ asks_of l.tasks l.changes.items
