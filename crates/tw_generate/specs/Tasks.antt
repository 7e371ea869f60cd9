-- The tasks that are generated, by their numbers, which count from 0.
use Rattle.std.specs.Prelude.{ℕ, ◌+◌, ◌*◌, ◌%◌, ◌^◌, ◌==◌, cond, List, [], ◌++◌, codes}
use Rattle.std.specs.Fmt.{decimal}
use Rattle.std.specs.FinMap.{insert, empty}
use Rattle.tw_world.specs.Ids.{id_bytes}
use Rattle.tw_model.specs.Ops.{TaskValue}

-- the uuid of a task: they start at the seed times 2^64
abbrev pub uuid_of : (seed i : ℕ) → List ℕ
uuid_of seed i = id_bytes (seed * 2 ^ 64 + i)

abbrev pub priority_of : ℕ → List ℕ
priority_of i = cond (i % 3 == 0) (codes "H") (cond (i % 3 == 1) (codes "M") (codes "L"))

abbrev pub project_of : (seed i : ℕ) → List ℕ
project_of seed i = codes "p" ++ decimal ((i + seed) % 10)

-- its words: a description and a project
abbrev pub worded : (seed i : ℕ) → TaskValue → TaskValue
worded seed i task =
    insert (insert task (codes "description") (codes "Task " ++ decimal i)) (codes "project") (project_of seed i)

-- its moments: due a minute after the one before it, and entered a second after
abbrev pub timed : ℕ → TaskValue → TaskValue
timed i task =
    insert (insert (insert task (codes "due") (decimal (1800000000 + 60 * i))) (codes "entry") (decimal (1700000000 + i)))
    (codes "modified") (decimal (1700000000 + i))

-- the other properties
abbrev pub marked : ℕ → TaskValue → TaskValue
marked i task = insert (insert (insert task (codes "priority") (priority_of i)) (codes "status") (codes "pending")) (codes "tag_a") []

-- a task
abbrev pub task_of : (seed i : ℕ) → TaskValue
task_of seed i = marked i (timed i (worded seed i empty))

-- the same with another project
abbrev pub moved_task : (seed i : ℕ) → (project : List ℕ) → TaskValue
moved_task seed i project = insert (task_of seed i) (codes "project") project
