-- the changes so far, and those that are left with the answers that are left, are all
use Rattle.std.proofs.Common.{◌≡◌, ◌++◌, length}
use Rattle.std.specs.Vec.Iter.{into_iter_items, into_iter_len}
use Rattle.tw_commands.specs.Asks.{answered_all}
use Rattle.tw_commands.proofs.asks.answered_all.Given as goal

abbrev pub invariant-loop-change : goal.invariant-loop-change
invariant-loop-change l = record {
  all : l.made.items ++ answered_all l.left l.tasks (into_iter_items l.change-iterator) ≡ answered_all l.fn.answers.items l.tasks l.fn.changes.items;
  len : into_iter_len l.change-iterator ≡ length (into_iter_items l.change-iterator);
}
