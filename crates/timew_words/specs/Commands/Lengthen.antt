-- The words of `lengthen`.
use Rattle.std.specs.Prelude.{Bool, Result, Ok}
use Rattle.timew_words.specs.Parts.{Words}
use Rattle.timew_words.specs.Results.{◌>>=◌}
use Rattle.timew_words.specs.Stretch.{resize_in}
use Rattle.timew_words.specs.declared.command.Changing.TheVariants.{Lengthen}
use Rattle.timew_words.specs.declared.command.Command.{Command}
use Rattle.timew_words.specs.declared.command.Command.TheVariants.{Change}
use Rattle.timew_words.specs.declared.error.BadWord.{BadWord}

-- an id and a length
abbrev pub lengthen_in : Bool → Words → Result Command BadWord
lengthen_in adjust words = resize_in adjust words >>= λ parts. Ok (Change (Lengthen parts))
