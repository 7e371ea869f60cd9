use Rattle.std.proofs.Common.{ℕ, ◌-◌, ◌^◌, ◌≤◌, List, length}
use Rattle.std.specs.Io.KnownBytes.{Consumes}
use Rattle.tw_files.proofs.process_spawner.read_on.Given as goal

abbrev pub invariant-loop-turn : goal.invariant-loop-turn
invariant-loop-turn g l = (ignored : List ℕ) × Consumes (g.P.OpenScript.remaining l.fn.script) (g.P.OpenScript.remaining l.script) ignored × (l.turn ≤ length ignored)

abbrev pub decreases-loop-turn : goal.decreases-loop-turn
decreases-loop-turn g l = 2 ^ 64 - l.turn
