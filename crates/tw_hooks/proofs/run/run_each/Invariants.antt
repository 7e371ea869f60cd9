use Rattle.tw_spawn.specs.Spawner.{TellsRuns, SpawnerKept}
use Rattle.tw_hooks.proofs.Leading.{Led}
use Rattle.tw_hooks.proofs.run.run_each.Given as goal

abbrev pub invariant-loop-name : goal.invariant-loop-name
invariant-loop-name g l = record {
  led : TellsRuns g.P.Spawner.model l.fn.spawner → Led l.event l.uuid l.now.seconds l.before g.P.Spawner.model l.hooks.keys l.after l.fn.spawner l.spawner l.name-iterator l.so_far;
  kept : SpawnerKept g.P.Spawner.model l.fn.spawner l.spawner;
}
