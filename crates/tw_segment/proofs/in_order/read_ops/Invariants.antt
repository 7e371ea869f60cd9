use Rattle.std.proofs.Common.{length}
use Rattle.tw_segment.proofs.InOrder.{Continues}
use Rattle.tw_segment.proofs.in_order.read_ops.Given as goal

abbrev pub invariant-list : goal.invariant-list
invariant-list l = Continues l.initial.reader l.ops.items l.reader

abbrev pub decreases-list : goal.decreases-list
decreases-list l = length l.reader
