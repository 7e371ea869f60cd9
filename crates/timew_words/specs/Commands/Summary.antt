-- The words of `summary`, timew-summary(1).
use Rattle.std.specs.Prelude.{ℕ, Result, Ok}
use Rattle.tw_time.specs.Moments.{TimeZone}
use Rattle.timew_words.specs.Parts.{Words}
use Rattle.timew_words.specs.Results.{◌>>=◌}
use Rattle.timew_words.specs.Stretch.{range_in}
use Rattle.timew_words.specs.declared.command.Command.{Command}
use Rattle.timew_words.specs.declared.command.Command.TheVariants.{Show}
use Rattle.timew_words.specs.declared.command.Showing.TheVariants.{Summary}
use Rattle.timew_words.specs.declared.error.BadWord.{BadWord}
use Rattle.timew_words.specs.declared.range.Range.TheVariants.{Day}

-- a range, or else the day
abbrev pub summary_in : (now : ℕ) → TimeZone → Words → Result Command BadWord
summary_in now zone words = range_in Day now zone words >>= λ range. Ok (Show (Summary range))
