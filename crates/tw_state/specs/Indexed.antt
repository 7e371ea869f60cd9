-- A replica that is replayed.
use Rattle.std.specs.Prelude.{◌≡◌, ℕ, List, false, None, IfSome}
use Rattle.std.specs.FinMap.{get}
use Rattle.tw_model.specs.Maps.{same_bytes}
use Rattle.tw_model.specs.Ops.{TasksValue}
use Rattle.tw_model.specs.declared.Op.{Op}
use Rattle.tw_state.specs.State.{misfit, is_idle}
use Rattle.tw_numbers.specs.Assigned.{IsAssignedIn, IsIndex}
use Rattle.tw_state.specs.Touched.{is_touched}
use Rattle.tw_state.specs.declared.indexed.Indexed.{Indexed}

-- the operations are about one task, which is not there before them
pub record MakesOne (u : List ℕ) (ops : List Op) : Type 0 where
  pub touched : (v : List ℕ) → is_touched ops v ≡ same_bytes v u
  pub fresh : (tasks : TasksValue) → misfit 0 tasks ops ≡ None → get tasks u ≡ None
  pub some : is_idle false ops ≡ false

-- the places are assigned to the tasks, and the map, if there is one, says where each is
pub record IsUpToDate (indexed : Indexed) : Type 0 where
  pub index : IfSome indexed.index (λ index. IsIndex index indexed.core.numbers.items)
  pub assigned : IsAssignedIn indexed.core.numbers.items indexed.core.tasks
