-- The words of `delete`.
use Rattle.std.specs.Prelude.{Result, Ok}
use Rattle.timew_words.specs.Parts.{Words, some_ids}
use Rattle.timew_words.specs.Results.{◌>>=◌}
use Rattle.timew_words.specs.declared.command.Changing.TheVariants.{Delete}
use Rattle.timew_words.specs.declared.command.Command.{Command}
use Rattle.timew_words.specs.declared.command.Command.TheVariants.{Change}
use Rattle.timew_words.specs.declared.error.BadWord.{BadWord}

-- one id or more
abbrev pub delete_in : Words → Result Command BadWord
delete_in words = some_ids words >>= λ ids. Ok (Change (Delete ids))
