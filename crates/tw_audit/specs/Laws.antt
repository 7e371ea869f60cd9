-- What the definition of a difference means.
use Rattle.std.specs.Prelude.{◌≡◌, ◌↔◌, ℕ, List, Option, Some, None}
use Rattle.std.specs.declared.cmp.Ordering.TheVariants.{Less}
use Rattle.std.specs.FinMap.{FinMap, get}
use Rattle.tw_model.specs.Maps.{bytes_cmp}
use Rattle.tw_model.specs.Ops.{TaskValue, TasksValue}
use Rattle.tw_audit.specs.declared.differences.What.TheVariants.{Value}
use Rattle.tw_audit.specs.declared.differences.Difference.{Difference}
use Rattle.tw_audit.specs.Differences.{first_value, difference}

-- two maps differ at this key, and at none before it
pub record IsFirstKey {X : Type 0} (here there : FinMap bytes_cmp X) (key : List ℕ) : Type 0 where
  pub differs : ¬ (get here key ≡ get there key)
  pub before : (other : List ℕ) → bytes_cmp other key ≡ Less → get here other ≡ get there other

-- two task databases differ in nothing exactly if they are equal
abbrev pub EqualDifferInNothing : Type 0
EqualDifferInNothing = (here there : TasksValue) → (difference here there ≡ None) ↔ (here ≡ there)

-- the task that is named is the first at which they differ
abbrev pub DifferenceIsFirst : Type 0
DifferenceIsFirst = (here there : TasksValue) (found : Difference) → difference here there ≡ Some found → IsFirstKey here there found.uuid

-- the property that is named is the first at which two tasks differ
abbrev pub ValueIsFirst : Type 0
ValueIsFirst = (here there : TaskValue) (property : List ℕ) (a b : Option (List ℕ))
    → first_value here there ≡ Some (Value property a b) → IsFirstKey here there property
