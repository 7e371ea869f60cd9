-- Tasks by their uuids.
use Rattle.std.specs.Prelude.{◌≡◌, ◌<◌, ℕ, List, length}
use Rattle.std.specs.List.{All, AllByRecursion}
use Rattle.std.specs.FinMap.{entries}
use Rattle.tw_model.specs.Ops.{TasksValue}

-- sixteen bytes
abbrev pub IsUuid : List ℕ → Type 0
IsUuid u = (length u ≡ 16) × All (λ b. b < 256) u

-- each task has a uuid as its key, as in every database
abbrev pub HaveUuids : TasksValue → Type 0
HaveUuids tasks = AllByRecursion (λ e. IsUuid e.0) (entries tasks)
