-- The words of `shorten`.
use Rattle.std.specs.Prelude.{Bool, Result, Ok}
use Rattle.timew_words.specs.Parts.{Words}
use Rattle.timew_words.specs.Results.{◌>>=◌}
use Rattle.timew_words.specs.Stretch.{resize_in}
use Rattle.timew_words.specs.declared.command.Changing.TheVariants.{Shorten}
use Rattle.timew_words.specs.declared.command.Command.{Command}
use Rattle.timew_words.specs.declared.command.Command.TheVariants.{Change}
use Rattle.timew_words.specs.declared.error.BadWord.{BadWord}

-- an id and a length
abbrev pub shorten_in : Bool → Words → Result Command BadWord
shorten_in adjust words = resize_in adjust words >>= λ parts. Ok (Change (Shorten parts))
