-- The words of `stop`.
use Rattle.std.specs.Prelude.{ℕ, [], ◌∷◌, Some, None, Result, Ok}
use Rattle.tw_time.specs.Moments.{TimeZone, moment}
use Rattle.timew_words.specs.Parts.{Words, ended, moment_in}
use Rattle.timew_words.specs.Results.{◌>>=◌}
use Rattle.timew_words.specs.declared.command.Changing.TheVariants.{Stop}
use Rattle.timew_words.specs.declared.command.Command.{Command}
use Rattle.timew_words.specs.declared.command.Command.TheVariants.{Change}
use Rattle.timew_words.specs.declared.error.BadWord.{BadWord}

-- a moment, or else now
abbrev pub stop_in : (now : ℕ) → TimeZone → Words → Result Command BadWord
stop_in now zone [] = Ok (Change (Stop (record { word = 0; moment = None })))
stop_in now zone (w ∷ words) = moment_in now zone w >>= λ at. ended (Change (Stop (record { word = w.0; moment = Some at }))) words
