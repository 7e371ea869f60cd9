-- `append` and `prepend`: a text after or before the description.
use Rattle.std.specs.Prelude.{ℕ, List, ◌∷◌, ◌++◌, Option, Some, None, codes}
use Rattle.std.specs.FinMap.{get, insert}
use Rattle.tw_model.specs.Ops.{TaskValue}
use Rattle.tw_changes.specs.declared.effects.Effect.{Effect}
use Rattle.tw_changes.specs.declared.effects.Effect.TheVariants.{Becomes}

-- a space between a description and a text, if there is a description
abbrev pub appended : List ℕ → Option (List ℕ) → List ℕ
appended text None = text
appended text (Some description) = description ++ 32 ∷ text

abbrev pub prepended : List ℕ → Option (List ℕ) → List ℕ
prepended text None = text
prepended text (Some description) = text ++ 32 ∷ description

abbrev pub append : List ℕ → TaskValue → Effect
append text task = Becomes (insert task (codes "description") (appended text (get task (codes "description"))))

abbrev pub prepend : List ℕ → TaskValue → Effect
prepend text task = Becomes (insert task (codes "description") (prepended text (get task (codes "description"))))
