-- One hook that was run.
use Rattle.std.specs.Prelude.{◌≡◌, ◌⊎◌, ⊤, ℕ, List, [], ◌∷◌, ◌++◌, None}
use Rattle.tw_model.specs.Ops.{TaskValue}
use Rattle.tw_world.specs.Disk.{Rose}
use Rattle.tw_spawn.specs.Spawner.{Run, SpawnerModel, TellsRuns}
use Rattle.tw_spawn.specs.declared.spawner.SpawnError.{SpawnError}
use Rattle.tw_spawn.specs.declared.spawner.SpawnError.TheVariants as spawn
use Rattle.tw_hooks.specs.Answer.{answered}
use Rattle.tw_hooks.specs.Hooked.{IsRunOf, Answers}
use Rattle.tw_hooks.specs.declared.event.Event.{Event}
use Rattle.tw_hooks.specs.declared.error.HookError.{HookError}
use Rattle.tw_hooks.specs.declared.error.HookError.TheVariants.{Refused, Answer, Fault, Memory}

abbrev pub spawn_error : SpawnError → HookError
spawn_error spawn.Failed = Fault
spawn_error spawn.Memory = Memory

-- why no hook was begun
abbrev pub NoneBegun : {P : Type 0} → SpawnerModel P → (old new : P) → HookError → Type 0
NoneBegun m old new (Refused name status) = ⊥
NoneBegun m old new (Answer name) = ⊥
NoneBegun m old new Fault = Rose (m.faults old) (m.faults new)
NoneBegun m old new Memory = ⊤

module _ (event : Event) (u : List ℕ) (now : ℕ) (before : TaskValue) {P : Type 0} (m : SpawnerModel P) (old new : P) (name : List ℕ)
    (so_far : TaskValue) where
  -- it was run, and this holds of the run
  abbrev pub RanOne : (Run → Type 0) → Type 0
  RanOne p = TellsRuns m old → (run : Run) × (m.runs new ≡ m.runs old ++ run ∷ []) × p run

  abbrev pub RanNone : Type 0
  RanNone = TellsRuns m old → m.runs new ≡ m.runs old

  abbrev pub OneAnswered : TaskValue → Type 0
  OneAnswered next = RanOne (λ run. Answers event u now before name so_far run next)

  abbrev pub OneRefused : HookError → Type 0
  OneRefused (Refused other status) =
      (other ≡ name) × ((status ≡ 0) → ⊥) × RanOne (λ run. IsRunOf event u now before name so_far run × (run.status ≡ status))
  OneRefused (Answer other) =
      (other ≡ name) × RanOne (λ run. IsRunOf event u now before name so_far run × (run.status ≡ 0) × (answered u now run.output ≡ None))
  OneRefused Fault = Rose (m.faults old) (m.faults new) × RanNone
  OneRefused Memory = RanNone ⊎ RanOne (λ run. IsRunOf event u now before name so_far run)
