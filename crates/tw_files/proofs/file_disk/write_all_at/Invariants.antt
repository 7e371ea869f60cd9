use Rattle.std.proofs.Common.{ℕ, List, ◌≤◌, ◌+◌, ◌-◌, length, take}
use Rattle.tw_files.specs.OffsetFile.{Overwrites, KeepsLength}
use Rattle.tw_files.proofs.file_disk.write_all_at.Given as goal

abbrev pub invariant-loop-done : goal.invariant-loop-done
invariant-loop-done g l = (l.done ≤ length l.bytes) × Overwrites (g.F.OffsetFile.contents l.fn.file) (g.F.OffsetFile.contents l.file) l.at (take l.done l.bytes) × KeepsLength (g.F.OffsetFile.contents l.fn.file) (g.F.OffsetFile.contents l.file) (l.at + length l.bytes) × ((path : List ℕ) → g.F.OffsetFile.is_at l.fn.file path → g.F.OffsetFile.is_at l.file path)

abbrev pub decreases-loop-done : goal.decreases-loop-done
decreases-loop-done g l = length l.bytes - l.done
