-- The words of `export`, timew-export(1).
use Rattle.std.specs.Prelude.{ℕ, Result, Ok}
use Rattle.tw_time.specs.Moments.{TimeZone}
use Rattle.timew_words.specs.Parts.{Words}
use Rattle.timew_words.specs.Results.{◌>>=◌}
use Rattle.timew_words.specs.Stretch.{range_in}
use Rattle.timew_words.specs.declared.command.Command.{Command}
use Rattle.timew_words.specs.declared.command.Command.TheVariants.{Show}
use Rattle.timew_words.specs.declared.command.Showing.TheVariants.{Export}
use Rattle.timew_words.specs.declared.error.BadWord.{BadWord}
use Rattle.timew_words.specs.declared.range.Range.TheVariants.{All}

-- a range, or else all intervals
abbrev pub export_in : (now : ℕ) → TimeZone → Words → Result Command BadWord
export_in now zone words = range_in All now zone words >>= λ range. Ok (Show (Export range))
