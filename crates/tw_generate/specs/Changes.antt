-- What becomes of the tasks that are generated.
use Rattle.std.specs.Prelude.{ℕ, zero, suc, ◌%◌, ◌==◌, cond, List, [], ◌∷◌, ◌++◌, Some}
use Rattle.tw_model.specs.declared.changes.Change.{Change}
use Rattle.tw_generate.specs.Tasks.{uuid_of, task_of, moved_task}

-- a task is made
abbrev pub made_one : (seed i : ℕ) → Change
made_one seed i = record { uuid = uuid_of seed i; task = Some (task_of seed i) }

-- the first n tasks are made
abbrev pub made : (seed n : ℕ) → List Change
made seed zero = []
made seed (suc n) = made seed n ++ made_one seed n ∷ []

-- a task goes to another project
abbrev pub moved_one : (seed i : ℕ) → (project : List ℕ) → Change
moved_one seed i project = record { uuid = uuid_of seed i; task = Some (moved_task seed i project) }

-- those of the first n tasks whose number this divides go to another project
abbrev pub moved : (seed divisor : ℕ) → (project : List ℕ) → (n : ℕ) → List Change
moved seed divisor project zero = []
moved seed divisor project (suc n) = moved seed divisor project n ++ cond (n % divisor == 0) (moved_one seed n project ∷ []) []
