use Rattle.std.proofs.Common.{◌-◌}
use Rattle.tw_journal.specs.Reading.{Finding}
use Rattle.tw_journal.proofs.record.find_offset.Given as goal

abbrev pub invariant-loop-number : goal.invariant-loop-number
invariant-loop-number g l = Finding g.D.Disk.model l.start l.offsets l.n l.fn.disk l.disk l.window l.at l.number

abbrev pub decreases-loop-number : goal.decreases-loop-number
decreases-loop-number g l = l.n - l.number
