-- The words of `track`.
use Rattle.std.specs.Prelude.{ℕ, [], Bool, Result, Ok}
use Rattle.tw_time.specs.Moments.{TimeZone}
use Rattle.timew_words.specs.Parts.{Words, tags_with}
use Rattle.timew_words.specs.Results.{◌>>=◌}
use Rattle.timew_words.specs.Stretch.{span_in}
use Rattle.timew_words.specs.declared.command.Changing.TheVariants.{Track}
use Rattle.timew_words.specs.declared.command.Command.{Command}
use Rattle.timew_words.specs.declared.command.Command.TheVariants.{Change}
use Rattle.timew_words.specs.declared.error.BadWord.{BadWord}

-- `S - E`, and tags
abbrev pub track_in : Bool → (now : ℕ) → TimeZone → Words → Result Command BadWord
track_in adjust now zone words = do
  span ← span_in now zone words
  tags ← tags_with [] span.rest
  Ok (Change (Track (record { word = span.word; start = span.start; end = span.end; tags = tags; adjust = adjust })))
