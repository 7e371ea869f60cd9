-- The words of `move`.
use Rattle.std.specs.Prelude.{ℕ, [], ◌∷◌, Bool, Result}
use Rattle.tw_time.specs.Moments.{TimeZone}
use Rattle.timew_words.specs.Parts.{Words, missing, ended, moment_in, id_in}
use Rattle.timew_words.specs.Results.{◌>>=◌}
use Rattle.timew_words.specs.declared.command.Changing.TheVariants.{Move}
use Rattle.timew_words.specs.declared.command.Command.{Command}
use Rattle.timew_words.specs.declared.command.Command.TheVariants.{Change}
use Rattle.timew_words.specs.declared.error.BadWord.{BadWord}

abbrev pub move_to : Bool → (now : ℕ) → TimeZone → (id : ℕ) → Words → Result Command BadWord
move_to adjust now zone id [] = missing
move_to adjust now zone id (w ∷ words) =
    moment_in now zone w >>= λ start. ended (Change (Move (record { id = id; word = w.0; start = start; adjust = adjust }))) words

-- an id and a moment
abbrev pub move_in : Bool → (now : ℕ) → TimeZone → Words → Result Command BadWord
move_in adjust now zone [] = missing
move_in adjust now zone (w ∷ words) = id_in w >>= λ id. move_to adjust now zone id words
