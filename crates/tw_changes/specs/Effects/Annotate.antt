-- `annotate`: a text at the moment, or the next free second.
use Rattle.std.specs.Prelude.{ℕ, zero, suc, ◌+◌, cond, is_some, List, ◌++◌, codes}
use Rattle.std.specs.Fmt.{decimal}
use Rattle.std.specs.FinMap.{get, insert, len}
use Rattle.tw_world.specs.declared.Moment.{Moment}
use Rattle.tw_model.specs.Ops.{TaskValue}
use Rattle.tw_changes.specs.declared.effects.Effect.{Effect}
use Rattle.tw_changes.specs.declared.effects.Effect.TheVariants.{Becomes}

-- the property of an annotation of this second
abbrev pub annotation_at : ℕ → List ℕ
annotation_at second = codes "annotation_" ++ decimal second

-- the first of so many seconds, from this one on, that has no annotation, or the one after them
abbrev pub free_second : ℕ → TaskValue → ℕ → ℕ
free_second zero task second = second
free_second (suc more) task second = cond (is_some (get task (annotation_at second))) (free_second more task (second + 1)) second

abbrev pub annotate : Moment → List ℕ → TaskValue → Effect
annotate now text task = Becomes (insert task (annotation_at (free_second (len task) task now.seconds)) text)
