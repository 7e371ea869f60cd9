-- The weights that settings give: taskrc(5), under "URGENCY".
use Rattle.std.specs.Prelude.{ℕ, ℤ, cond, List, Option, Some, None, codes}
use Rattle.tw_text.specs.Natural.{natural}
use Rattle.tw_text.specs.Decimal.{thousandths}
use Rattle.tw_urgency.specs.Urgency.{defaults}
use Rattle.tw_urgency.specs.declared.coefficients.Coefficients.{Coefficients}
use Rattle.tw_settings.specs.Settings.{Pair, from_1_to, value_of}

abbrev pub int_or : ℤ → Option ℤ → ℤ
int_or default None = default
int_or default (Some z) = z

abbrev pub read_or : ℤ → Option (List ℕ) → ℤ
read_or default None = default
read_or default (Some text) = int_or default (thousandths text)

-- the coefficient of a name
abbrev pub coefficient : List ℕ → ℤ → List Pair → ℤ
coefficient name default pairs = read_or default (value_of name pairs)

abbrev pub number_or : ℕ → ℕ → Option ℕ → ℕ
number_or most default None = default
number_or most default (Some n) = cond (from_1_to most (Some n)) n default

abbrev pub number_read_or : ℕ → ℕ → Option (List ℕ) → ℕ
number_read_or most default None = default
number_read_or most default (Some text) = number_or most default (natural text)

-- the number of a name, from 1 on
abbrev pub number_of : List ℕ → ℕ → ℕ → List Pair → ℕ
number_of name most default pairs = number_read_or most default (value_of name pairs)

-- the weights, each the usual one if no other is set
abbrev pub weights_over : (usual : Coefficients) → List Pair → Coefficients
weights_over usual pairs = record {
  tag_next = coefficient (codes "urgency.user.tag.next.coefficient") usual.tag_next pairs;
  due = coefficient (codes "urgency.due.coefficient") usual.due pairs;
  blocking = coefficient (codes "urgency.blocking.coefficient") usual.blocking pairs;
  high = coefficient (codes "urgency.uda.priority.H.coefficient") usual.high pairs;
  medium = coefficient (codes "urgency.uda.priority.M.coefficient") usual.medium pairs;
  low = coefficient (codes "urgency.uda.priority.L.coefficient") usual.low pairs;
  scheduled = coefficient (codes "urgency.scheduled.coefficient") usual.scheduled pairs;
  active = coefficient (codes "urgency.active.coefficient") usual.active pairs;
  age = coefficient (codes "urgency.age.coefficient") usual.age pairs;
  annotations = coefficient (codes "urgency.annotations.coefficient") usual.annotations pairs;
  tags = coefficient (codes "urgency.tags.coefficient") usual.tags pairs;
  project = coefficient (codes "urgency.project.coefficient") usual.project pairs;
  blocked = coefficient (codes "urgency.blocked.coefficient") usual.blocked pairs;
  waiting = coefficient (codes "urgency.waiting.coefficient") usual.waiting pairs;
  age_max = number_of (codes "urgency.age.max") 100_000 usual.age_max pairs;
}

-- the weights, by the defaults of taskrc(5)
abbrev pub weights : List Pair → Coefficients
weights pairs = weights_over defaults pairs
