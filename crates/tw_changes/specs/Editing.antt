-- What each command that acts on selected tasks makes of one.
use Rattle.std.specs.Prelude.{List}
use Rattle.tw_world.specs.declared.Moment.{Moment}
use Rattle.tw_model.specs.Ops.{TaskValue}
use Rattle.tw_words.specs.Lines.{Parts}
use Rattle.tw_words.specs.declared.changes.modification.Modification.{Modification}
use Rattle.tw_words.specs.declared.command.Command.{Command}
use Rattle.tw_words.specs.declared.command.Command.TheVariants as command
use Rattle.tw_changes.specs.Spaced.{rest_text}
use Rattle.tw_changes.specs.Effects.Modify.{modify}
use Rattle.tw_changes.specs.Effects.Append.{append, prepend}
use Rattle.tw_changes.specs.Effects.Annotate.{annotate}
use Rattle.tw_changes.specs.Effects.Denotate.{denotate}
use Rattle.tw_changes.specs.Effects.Done.{done, delete}
use Rattle.tw_changes.specs.Effects.Purge.{purge}
use Rattle.tw_changes.specs.Effects.Start.{start, stop}
use Rattle.tw_changes.specs.declared.effects.Effect.{Effect}
use Rattle.tw_changes.specs.declared.effects.Effect.TheVariants.{Nothing}
use Rattle.tw_changes.specs.declared.request.Request.{Request}

-- what a command that acts on selected tasks makes of one
abbrev pub effect_of : Command → List Modification → Parts → Moment → TaskValue → Effect
effect_of command.Modify ms line now task = modify ms task
effect_of command.Append ms line now task = append (rest_text line) task
effect_of command.Prepend ms line now task = prepend (rest_text line) task
effect_of command.Annotate ms line now task = annotate now (rest_text line) task
effect_of command.Denotate ms line now task = denotate (rest_text line) task
effect_of command.Done ms line now task = done now task
effect_of command.Delete ms line now task = delete now task
effect_of command.Purge ms line now task = purge now task
effect_of command.Start ms line now task = start now task
effect_of command.Stop ms line now task = stop now task
effect_of _ ms line now task = Nothing

-- what a request makes of a task
abbrev pub effect_by : Request → List Modification → TaskValue → Effect
effect_by request ms task = effect_of request.command ms request.line request.at task
