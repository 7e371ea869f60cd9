-- The words of `untag`.
use Rattle.std.specs.Prelude.{Result, Ok}
use Rattle.timew_words.specs.Stretch.{tagging_in}
use Rattle.timew_words.specs.Parts.{Words}
use Rattle.timew_words.specs.Results.{◌>>=◌}
use Rattle.timew_words.specs.declared.command.Changing.TheVariants.{Untag}
use Rattle.timew_words.specs.declared.command.Command.{Command}
use Rattle.timew_words.specs.declared.command.Command.TheVariants.{Change}
use Rattle.timew_words.specs.declared.error.BadWord.{BadWord}

-- ids, or none, and one tag or more
abbrev pub untag_in : Words → Result Command BadWord
untag_in words = tagging_in words >>= λ parts. Ok (Change (Untag parts))
