-- What a text is made of: tasks, their numbers, a moment, a zone and the weights of urgency.
use Rattle.std.specs.Prelude.{◌<◌, ℕ, ℤ, pos, neg_ℤ, ◌≤ℤ◌}
use Rattle.jiff.specs.Types.{TimeZone}
use Rattle.tw_world.specs.declared.moment.TheConstants.{MOMENT_LIMIT}
use Rattle.tw_model.specs.Ops.{TasksValue}
use Rattle.tw_model.specs.Places.{Places}
use Rattle.tw_urgency.specs.Urgency.{AreWeights}
use Rattle.tw_urgency.specs.declared.coefficients.Coefficients.{Coefficients}
use Rattle.tw_terms.specs.Indexes.{AreIds, AreBlocking}
use Rattle.tw_terms.specs.declared.view.View.{View}
use Rattle.tw_report.specs.declared.look.Look.{Look}

-- what is looked at
pub record Sight : Type 0 where
  pub tasks : TasksValue
  pub numbers : Places
  pub now : ℕ
  pub zone : TimeZone
  pub weights : Coefficients

abbrev pub sight_of : View → Coefficients → Sight
sight_of view weights = record {
  tasks = view.tasks.now;
  numbers = view.numbers.now.items;
  now = view.now.seconds;
  zone = view.zone.now;
  weights = weights;
}

abbrev pub sight_in : Look → Sight
sight_in look = sight_of look.view.now look.weights.now

-- what was found of many tasks at once is right
pub record IsLook (look : Look) : Type 0 where
  pub ids : AreIds look.ids look.view.now.numbers.now.items
  pub blocking : AreBlocking look.blocking look.view.now.tasks.now
  pub weights : AreWeights look.weights.now
  pub second : look.view.now.now.seconds < MOMENT_LIMIT

-- a number that leaves room for a sign
abbrev pub IsModest : ℤ → Type 0
IsModest z = (neg_ℤ (pos 1_000_000_000_000) ≤ℤ z) × (z ≤ℤ pos 1_000_000_000_000)
