-- What is asked, and what has grown, as they are held.
use Rattle.std.specs.Prelude.{String, string_bytes, Vec}
use Rattle.std.specs.FinMap.{entries}
use Rattle.std.specs.declared.alloc.Global.{Global}
use Rattle.tw_model.specs.Ops.{TasksValue}
use Rattle.tw_recur.specs.Instances.{Asked, Growth, Making, with_parents}
use Rattle.tw_model.specs.declared.changes.Change.{Change}
use Rattle.tw_recur.specs.declared.growth.Asking.{Asking}

abbrev pub asked_in : Asking → Asked
asked_in a = record { tasks = a.tasks.now; zone = a.zone.now; now = a.second; limit = a.limit }

abbrev pub growth_in : TasksValue → String Global → Growth
growth_in made mask = record { made = made; mask = string_bytes mask }

abbrev pub making_in : TasksValue → Vec Change Global → Making
making_in made parents = record { made = made; parents = parents.items }

-- what is made once every task that is asked about was looked at
abbrev pub with_all_parents : Asking → Making → Making
with_all_parents a m = with_parents (asked_in a) m (entries a.tasks.now)
