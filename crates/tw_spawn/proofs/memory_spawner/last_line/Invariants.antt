use Rattle.std.proofs.Common.{◌≡◌, ◌≤◌, [], take, drop}
use Rattle.tw_spawn.specs.MemorySpawner.{last_line}
use Rattle.tw_spawn.proofs.memory_spawner.last_line.Given as goal

abbrev pub invariant-loop-at : goal.invariant-loop-at
invariant-loop-at l = record {
  inside : l.start ≤ l.at;
  line : last_line (drop l.start (take l.at l.text)) (drop l.at l.text) ≡ last_line [] l.text;
}
