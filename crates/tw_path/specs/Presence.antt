-- Which uuids have a task.
use Rattle.std.specs.Prelude.{◌≡◌, ℕ, Bool, List, is_some}
use Rattle.std.specs.Option.{unwrap_or}
use Rattle.std.specs.BTreeMap as tree
use Rattle.std.specs.FinMap.{get}
use Rattle.tw_model.specs.Maps.{bytes_cmp}
use Rattle.tw_model.specs.Ops.{TasksValue}
use Rattle.tw_path.specs.declared.presence.Presence.{Presence}

-- whether a uuid has a task: by what is noted, and else by the tasks at hand
abbrev pub has : Presence → TasksValue → List ℕ → Bool
has presence tasks u = unwrap_or (tree.get bytes_cmp presence.changed u) (is_some (get tasks u))

-- beside the tasks at hand it shows which uuids have a task among others
abbrev pub Tells : Presence → (tasks other : TasksValue) → Type 0
Tells presence tasks other = (u : List ℕ) → has presence tasks u ≡ is_some (get other u)
