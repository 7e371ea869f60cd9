-- What a step leads to.
use Rattle.std.specs.Prelude.{◌≡◌}
use Rattle.tw_model.specs.Ops.{TasksValue}
use Rattle.tw_state.specs.Part.{with_part, fresh_among}
use Rattle.tw_state.specs.declared.next.Next.{Next}

-- the tasks once the step is taken
abbrev pub after : Next → TasksValue → TasksValue
after next tasks = with_part next.touched.keys next.part tasks

-- it says which of its tasks these do not have
abbrev pub IsNextOf : TasksValue → Next → Type 0
IsNextOf tasks next = next.fresh.items ≡ fresh_among next.part tasks next.touched.keys
