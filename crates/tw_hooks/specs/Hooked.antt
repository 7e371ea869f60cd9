-- Hooks that were run for a task, one after another.
use Rattle.std.specs.Prelude.{◌≡◌, ◌⊎◌, ⊤, ℕ, List, [], ◌∷◌, ◌++◌, Some, None}
use Rattle.tw_model.specs.Ops.{TaskValue}
use Rattle.tw_world.specs.Disk.{Rose}
use Rattle.tw_spawn.specs.Spawner.{Run, SpawnerModel, TellsRuns}
use Rattle.tw_hooks.specs.Answer.{given, answered}
use Rattle.tw_hooks.specs.Names.{told_hooks}
use Rattle.tw_hooks.specs.declared.event.Event.{Event}
use Rattle.tw_hooks.specs.declared.error.HookError.{HookError}
use Rattle.tw_hooks.specs.declared.error.HookError.TheVariants.{Refused, Answer, Fault, Memory}

module _ (event : Event) (u : List ℕ) (now : ℕ) (before : TaskValue) where
  -- a run of this hook on the task as it is so far
  pub record IsRunOf (name : List ℕ) (so_far : TaskValue) (run : Run) : Type 0 where
    pub name_is : run.name ≡ name
    pub input_is : run.input ≡ given event u now before so_far

  -- it ended well, and answered this task
  pub record Answers (name : List ℕ) (so_far : TaskValue) (run : Run) (next : TaskValue) : Type 0 where
    pub of : IsRunOf name so_far run
    pub status : run.status ≡ 0
    pub answer : answered u now run.output ≡ Some next

  -- these runs of the first of these hooks lead from a task to another, and the rest of the hooks were not run
  abbrev pub Leads : (names : List (List ℕ)) → List Run → (so_far : TaskValue) → (rest : List (List ℕ)) → (next : TaskValue) → Type 0
  Leads names [] so_far rest next = (rest ≡ names) × (next ≡ so_far)
  Leads [] (run ∷ runs) so_far rest next = ⊥
  Leads (name ∷ names) (run ∷ runs) so_far rest next = (task : TaskValue) × Answers name so_far run task × Leads names runs task rest next

  -- all hooks were run, and this is the task that the last one answered
  abbrev pub Hooked : (names : List (List ℕ)) → List Run → (after final : TaskValue) → Type 0
  Hooked names runs after final = Leads names runs after [] final

  -- some of the hooks answered, and no other was run to its end
  pub record Begun (names : List (List ℕ)) (runs : List Run) (after : TaskValue) : Type 0 where
    pub rest : List (List ℕ)
    pub so_far : TaskValue
    pub leads : Leads names runs after rest so_far

  -- the hooks before this one answered, and the last run is one of this hook
  pub record Stopped (names : List (List ℕ)) (runs : List Run) (after : TaskValue) (name : List ℕ) : Type 0 where
    pub done : List Run
    pub last : Run
    pub rest : List (List ℕ)
    pub so_far : TaskValue
    pub runs_are : runs ≡ done ++ last ∷ []
    pub leads : Leads names done after (name ∷ rest) so_far
    pub last_is : IsRunOf name so_far last

  -- the runs after which hooks refuse a task for this reason
  abbrev pub RefusedAfter : HookError → (names : List (List ℕ)) → List Run → (after : TaskValue) → Type 0
  RefusedAfter (Refused name status) names runs after = (s : Stopped names runs after name) × (s.last.status ≡ status)
  RefusedAfter (Answer name) names runs after = (s : Stopped names runs after name) × (s.last.status ≡ 0) × (answered u now s.last.output ≡ None)
  RefusedAfter Fault names runs after = Begun names runs after
  RefusedAfter Memory names runs after = Begun names runs after ⊎ ((name : List ℕ) × Stopped names runs after name)

module _ {P : Type 0} (m : SpawnerModel P) (old new : P) where
  -- the runs of this call
  abbrev pub RanNow : (List Run → Type 0) → Type 0
  RanNow p = TellsRuns m old → (runs : List Run) × (m.runs new ≡ m.runs old ++ runs) × p runs

  -- what a reason says beside the runs
  abbrev pub IsReason : HookError → Type 0
  IsReason (Refused name status) = (status ≡ 0) → ⊥
  IsReason (Answer name) = ⊤
  IsReason Fault = Rose (m.faults old) (m.faults new)
  IsReason Memory = ⊤

module _ (event : Event) (u : List ℕ) (now : ℕ) (before : TaskValue) {P : Type 0} (m : SpawnerModel P) (old new : P) where
  module _ (names : List (List ℕ)) (after : TaskValue) where
    -- these hooks were run, and this is the task that the last one answered
    abbrev pub HookedBy : (final : TaskValue) → Type 0
    HookedBy final = RanNow m old new (λ runs. Hooked event u now before names runs after final)

    -- why these hooks do not let a task become so
    abbrev pub RefusedBy : HookError → Type 0
    RefusedBy e = IsReason m old new e × RanNow m old new (λ runs. RefusedAfter event u now before e names runs after)

  -- the hooks that the object tells were run
  abbrev pub HookedNow : (after final : TaskValue) → Type 0
  HookedNow after final = HookedBy (told_hooks event m old) after final

  -- why they do not let a task become so
  abbrev pub HookRefused : (after : TaskValue) → HookError → Type 0
  HookRefused after e = RefusedBy (told_hooks event m old) after e
