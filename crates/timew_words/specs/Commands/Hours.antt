-- The words of `gaps`, `days`, `weeks` and `totals`, timew(1).
use Rattle.std.specs.Prelude.{ℕ, Result, Ok}
use Rattle.tw_time.specs.Moments.{TimeZone}
use Rattle.timew_words.specs.Parts.{Words}
use Rattle.timew_words.specs.Results.{◌>>=◌}
use Rattle.timew_words.specs.Stretch.{range_in}
use Rattle.timew_words.specs.declared.command.Command.{Command}
use Rattle.timew_words.specs.declared.command.Command.TheVariants.{Show}
use Rattle.timew_words.specs.declared.command.Showing.TheVariants.{Hours}
use Rattle.timew_words.specs.declared.command.TimeReport.{TimeReport}
use Rattle.timew_words.specs.declared.error.BadWord.{BadWord}
use Rattle.timew_words.specs.declared.range.Range.TheVariants.{Day}

-- a range, or else the day
abbrev pub hours_in : TimeReport → (now : ℕ) → TimeZone → Words → Result Command BadWord
hours_in report now zone words = range_in Day now zone words >>= λ range. Ok (Show (Hours report range))
