use Rattle.std.proofs.Common.{drop}
use Rattle.tw_spawn.specs.Spawner.{TellsRuns, SpawnerKept}
use Rattle.tw_hooks.proofs.Reaching.{Done}
use Rattle.tw_hooks.proofs.all.run_asks.Given as goal

abbrev pub invariant-loop-ask : goal.invariant-loop-ask
invariant-loop-ask g l = record {
  done : TellsRuns g.P.Spawner.model l.fn.spawner → Done l.event l.now.seconds l.hooks.keys g.P.Spawner.model l.asks l.fn.spawner l.spawner (drop l.ask-index l.asks) l.finals.items;
  kept : SpawnerKept g.P.Spawner.model l.fn.spawner l.spawner;
}
