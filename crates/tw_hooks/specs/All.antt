-- Hooks that were run for the tasks of a whole call, one task after another.
use Rattle.std.specs.Prelude.{◌≡◌, ℕ, List, [], ◌∷◌, ◌++◌}
use Rattle.tw_model.specs.Ops.{TaskValue}
use Rattle.tw_spawn.specs.Spawner.{Run, SpawnerModel}
use Rattle.tw_hooks.specs.Hooked.{Hooked, RefusedAfter, RanNow, IsReason}
use Rattle.tw_hooks.specs.Names.{told_hooks}
use Rattle.tw_hooks.specs.declared.all.Ask.{Ask}
use Rattle.tw_hooks.specs.declared.event.Event.{Event}
use Rattle.tw_hooks.specs.declared.error.HookError.{HookError}

module _ (event : Event) (now : ℕ) (names : List (List ℕ)) where
  -- the runs of these hooks for each task in turn, and the tasks that the last ones answered
  abbrev pub AllHooked : (asks : List Ask) → List Run → (finals : List TaskValue) → Type 0
  AllHooked [] runs [] = runs ≡ []
  AllHooked [] runs (final ∷ finals) = ⊥
  AllHooked (a ∷ asks) runs [] = ⊥
  AllHooked (a ∷ asks) runs (final ∷ finals) =
      (own : List Run) × (others : List Run) × (runs ≡ own ++ others)
      × Hooked event a.uuid now a.before names own a.after final × AllHooked asks others finals

  -- all hooks were run for the tasks before this one, and the other runs are its own
  pub record Reached (asks : List Ask) (runs : List Run) : Type 0 where
    pub done : List Ask
    pub ask : Ask
    pub rest : List Ask
    pub asks_are : asks ≡ done ++ ask ∷ rest
    pub earlier : List Run
    pub own : List Run
    pub runs_are : runs ≡ earlier ++ own
    pub finals : List TaskValue
    pub hooked : AllHooked done earlier finals

module _ (event : Event) (now : ℕ) {P : Type 0} (m : SpawnerModel P) (old new : P) where
  module _ (names : List (List ℕ)) (asks : List Ask) where
    -- these hooks were run for all the tasks, and these are what the last ones answered
    abbrev pub AllHookedBy : (finals : List TaskValue) → Type 0
    AllHookedBy finals = RanNow m old new (λ runs. AllHooked event now names asks runs finals)

    -- the runs after which one of the tasks is refused for this reason
    abbrev pub OneRefusedAfter : HookError → List Run → Type 0
    OneRefusedAfter e runs = (r : Reached event now names asks runs) × RefusedAfter event r.ask.uuid now r.ask.before e names r.own r.ask.after

    -- why these hooks do not let the tasks become so
    abbrev pub AllRefusedBy : HookError → Type 0
    AllRefusedBy e = IsReason m old new e × RanNow m old new (OneRefusedAfter e)

  -- the hooks that the object tells were run for all the tasks
  abbrev pub AllHookedNow : List Ask → (finals : List TaskValue) → Type 0
  AllHookedNow asks finals = AllHookedBy (told_hooks event m old) asks finals

  -- why they do not let the tasks become so
  abbrev pub AllRefused : List Ask → HookError → Type 0
  AllRefused asks e = AllRefusedBy (told_hooks event m old) asks e
