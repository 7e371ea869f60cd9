-- `modify`: the modifications.
use Rattle.std.specs.Prelude.{List}
use Rattle.tw_model.specs.Ops.{TaskValue}
use Rattle.tw_words.specs.Changed.{applied}
use Rattle.tw_words.specs.declared.changes.modification.Modification.{Modification}
use Rattle.tw_changes.specs.declared.effects.Effect.{Effect}
use Rattle.tw_changes.specs.declared.effects.Effect.TheVariants.{Becomes}

-- what `modify` makes of a task
abbrev pub modify : List Modification → TaskValue → Effect
modify ms task = Becomes (applied ms task)
