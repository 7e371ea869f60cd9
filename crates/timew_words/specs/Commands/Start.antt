-- The words of `start`.
use Rattle.std.specs.Prelude.{ℕ, List, [], ◌∷◌, Bool, Some, None, Result, Ok, Err}
use Rattle.tw_time.specs.Moments.{TimeZone, moment}
use Rattle.tw_time.specs.declared.error.DateError.{DateError}
use Rattle.tw_time.specs.declared.error.DateError.TheVariants.{Unknown}
use Rattle.timew_words.specs.Parts.{Words, refused, tags_with}
use Rattle.timew_words.specs.Results.{◌>>=◌}
use Rattle.timew_words.specs.declared.command.Changing.TheVariants.{Start}
use Rattle.timew_words.specs.declared.command.Command.{Command}
use Rattle.timew_words.specs.declared.command.Command.TheVariants.{Change}
use Rattle.timew_words.specs.declared.error.BadWord.{BadWord}
use Rattle.timew_words.specs.declared.error.WordKind.TheVariants.{Date}

abbrev pub start_by : Bool → Result ℕ DateError → ℕ × List ℕ → Words → Result Command BadWord
start_by adjust (Ok at) w words = do
  tags ← tags_with [] words
  Ok (Change (Start (record { word = w.0; moment = Some at; tags = tags; adjust = adjust })))
start_by adjust (Err Unknown) w words = do
  tags ← tags_with [] (w ∷ words)
  Ok (Change (Start (record { word = 0; moment = None; tags = tags; adjust = adjust })))
start_by adjust (Err e) w words = refused w.0 Date

-- a moment, or else now, and tags
abbrev pub start_in : Bool → (now : ℕ) → TimeZone → Words → Result Command BadWord
start_in adjust now zone [] = Ok (Change (Start (record { word = 0; moment = None; tags = []; adjust = adjust })))
start_in adjust now zone (w ∷ words) = start_by adjust (moment w.1 now zone) w words
