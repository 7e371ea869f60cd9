-- What differs between two task databases, and what of it comes first: by the bytes of the uuids, then by those of the properties.
use Rattle.std.specs.Prelude.{ℕ, Bool, cond, List, [], ◌∷◌, ◌++◌, length, Option, Some, None, is_some, option_map}
use Rattle.std.specs.Option.{option_eq}
use Rattle.std.specs.Ordering.{is_lt}
use Rattle.std.specs.FinMap.{FinMap, get, entries}
use Rattle.tw_model.specs.Maps.{bytes_cmp, same_bytes}
use Rattle.tw_model.specs.Ops.{TaskValue, TasksValue}
use Rattle.tw_model.specs.LocalOps.{same_task}
use Rattle.tw_audit.specs.declared.differences.What.{What}
use Rattle.tw_audit.specs.declared.differences.What.TheVariants.{OnlyHere, OnlyThere, Value}
use Rattle.tw_audit.specs.declared.differences.Difference.{Difference}

-- ---- keys

-- the keys of entries that others lack or have otherwise
abbrev pub unlike : {X : Type 0} → (X → X → Bool) → FinMap bytes_cmp X → List (List ℕ × X) → List (List ℕ)
unlike same others [] = []
unlike same others (e ∷ es) = cond (option_eq same (get others e.0) (Some e.1)) (unlike same others es) (e.0 ∷ unlike same others es)

-- the keys of entries that others lack
abbrev pub lacking : {X : Type 0} → FinMap bytes_cmp X → List (List ℕ × X) → List (List ℕ)
lacking others [] = []
lacking others (e ∷ es) = cond (is_some (get others e.0)) (lacking others es) (e.0 ∷ lacking others es)

-- the keys at which two maps differ
abbrev pub differing : {X : Type 0} → (X → X → Bool) → (here there : FinMap bytes_cmp X) → List (List ℕ)
differing same here there = unlike same there (entries here) ++ lacking here (entries there)

-- the lesser of two keys, if there is a second
abbrev pub lesser : List ℕ → Option (List ℕ) → List ℕ
lesser k None = k
lesser k (Some other) = cond (is_lt (bytes_cmp other k)) other k

-- the first key in byte order
abbrev pub least : List (List ℕ) → Option (List ℕ)
least [] = None
least (k ∷ ks) = Some (lesser k (least ks))

-- ---- tasks

-- a property, with its values here and there
abbrev pub value_at : (here there : TaskValue) → List ℕ → What
value_at here there property = Value property (get here property) (get there property)

-- the first property that differs
abbrev pub first_value : (here there : TaskValue) → Option What
first_value here there = option_map (value_at here there) (least (differing same_bytes here there))

-- what differs of a task that may be here and there
abbrev pub difference_at : (here there : Option TaskValue) → Option What
difference_at None None = None
difference_at None (Some there) = Some OnlyThere
difference_at (Some here) None = Some OnlyHere
difference_at (Some here) (Some there) = first_value here there

-- so many tasks differ, and this of the first one
abbrev pub differs_by : ℕ → List ℕ → What → Difference
differs_by tasks uuid what = record { tasks = tasks; uuid = uuid; what = what }

abbrev pub difference_of : (here there : TasksValue) → Option (List ℕ) → Option Difference
difference_of here there None = None
difference_of here there (Some uuid) = option_map (differs_by (length (differing same_task here there)) uuid) (difference_at (get here uuid) (get there uuid))

-- what differs first between two task databases
abbrev pub difference : (here there : TasksValue) → Option Difference
difference here there = difference_of here there (least (differing same_task here there))
