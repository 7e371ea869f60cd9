-- What terms look at.
use Rattle.std.specs.Prelude.{ℕ}
use Rattle.tw_time.specs.Moments.{TimeZone}
use Rattle.tw_model.specs.Ops.{TasksValue}
use Rattle.tw_model.specs.Places.{Places}
use Rattle.tw_terms.specs.declared.view.View.{View}

-- what a filter looks at: all tasks, their numbers, a moment and a zone
pub record Scene : Type 0 where
  pub tasks : TasksValue
  pub places : Places
  pub now : ℕ
  pub tz : TimeZone

abbrev pub scene_of : View → Scene
scene_of view = record { tasks = view.tasks.now; places = view.numbers.now.items; now = view.now.seconds; tz = view.zone.now }
