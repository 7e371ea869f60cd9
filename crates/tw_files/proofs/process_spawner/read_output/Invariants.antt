use Rattle.std.proofs.Common.{◌≤◌, ◌-◌, length}
use Rattle.std.specs.Io.KnownBytes.{Consumes}
use Rattle.tw_files.proofs.process_spawner.read_output.Given as goal

abbrev pub invariant-loop-piece : goal.invariant-loop-piece
invariant-loop-piece g l = (length l.output.items ≤ 16777217) × Consumes (g.P.OpenScript.remaining l.fn.script) (g.P.OpenScript.remaining l.script) l.output.items

abbrev pub decreases-loop-piece : goal.decreases-loop-piece
decreases-loop-piece g l = 16777217 - length l.output.items
