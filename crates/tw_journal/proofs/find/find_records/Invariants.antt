use Rattle.std.proofs.Common.{◌-◌}
use Rattle.tw_journal.specs.Open.{Searching}
use Rattle.tw_journal.proofs.find.find_records.Given as goal

abbrev pub invariant-loop-at : goal.invariant-loop-at
invariant-loop-at g l = Searching g.D.Disk.model l.start l.len l.fn.disk l.disk l.window l.at l.count l.offsets.items l.firsts.items

abbrev pub decreases-loop-at : goal.decreases-loop-at
decreases-loop-at g l = l.len - l.at
