-- A spawner whose every call fails. It tells no names and no runs.
use Rattle.std.specs.Prelude.{[], false}
use Rattle.tw_spawn.specs.Spawner.{SpawnerModel}
use Rattle.tw_spawn.specs.declared.failing.FailingSpawner.{FailingSpawner}

abbrev pub failing_spawner_model : SpawnerModel FailingSpawner
failing_spawner_model = record { faults = λ s. s.faults; tells = λ s. false; names = λ s. []; runs = λ s. [] }
