-- The words of `join`.
use Rattle.std.specs.Prelude.{ℕ, [], ◌∷◌, Bool, Result}
use Rattle.timew_words.specs.Parts.{Words, missing, ended, id_in}
use Rattle.timew_words.specs.Results.{◌>>=◌}
use Rattle.timew_words.specs.declared.command.Changing.TheVariants.{Join}
use Rattle.timew_words.specs.declared.command.Command.{Command}
use Rattle.timew_words.specs.declared.command.Command.TheVariants.{Change}
use Rattle.timew_words.specs.declared.error.BadWord.{BadWord}

abbrev pub join_with : Bool → (first : ℕ) → Words → Result Command BadWord
join_with adjust first [] = missing
join_with adjust first (w ∷ words) = id_in w >>= λ second. ended (Change (Join (record { first = first; second = second; adjust = adjust }))) words

-- two ids
abbrev pub join_in : Bool → Words → Result Command BadWord
join_in adjust [] = missing
join_in adjust (w ∷ words) = id_in w >>= λ first. join_with adjust first words
