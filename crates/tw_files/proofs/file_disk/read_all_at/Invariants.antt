use Rattle.std.proofs.Common.{◌≡◌, ◌≤◌, ◌-◌, length, take}
use Rattle.tw_files.specs.OffsetFile.{Holds}
use Rattle.tw_files.proofs.file_disk.read_all_at.Given as goal

abbrev pub invariant-loop-done : goal.invariant-loop-done
invariant-loop-done g l = (length l.out ≡ length l.fn.out) × (l.done ≤ length l.out) × Holds (g.F.OffsetFile.contents l.file) l.at (take l.done l.out)

abbrev pub decreases-loop-done : goal.decreases-loop-done
decreases-loop-done g l = length l.out - l.done
