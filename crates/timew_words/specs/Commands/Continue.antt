-- The words of `continue`.
use Rattle.std.specs.Prelude.{[], ◌∷◌, Bool, Some, None, Result, Ok}
use Rattle.timew_words.specs.Parts.{Words, ended, id_in}
use Rattle.timew_words.specs.Results.{◌>>=◌}
use Rattle.timew_words.specs.declared.command.Changing.TheVariants.{Continue}
use Rattle.timew_words.specs.declared.command.Command.{Command}
use Rattle.timew_words.specs.declared.command.Command.TheVariants.{Change}
use Rattle.timew_words.specs.declared.error.BadWord.{BadWord}

-- an id, or none
abbrev pub continue_in : Bool → Words → Result Command BadWord
continue_in adjust [] = Ok (Change (Continue (record { id = None; adjust = adjust })))
continue_in adjust (w ∷ words) = id_in w >>= λ id. ended (Change (Continue (record { id = Some id; adjust = adjust }))) words
