use Rattle.std.proofs.Common.{length}
use Rattle.tw_path.proofs.Parting.{IsParted}
use Rattle.tw_path.proofs.grouped.groups_of.Given as goal

abbrev pub invariant-loop-op : goal.invariant-loop-op
invariant-loop-op l = IsParted l.fn.pending.items l.pending.items l.group.items l.groups.items

abbrev pub decreases-loop-op : goal.decreases-loop-op
decreases-loop-op l = length l.pending.items
