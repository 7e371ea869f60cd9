use Rattle.std.proofs.Common.{[], ◌∷◌, IfOk, sym, subst}
use Rattle.std.specs.Prelude.{Result}
use Rattle.timew_words.specs.declared.command.Command.{Command}
use Rattle.timew_words.specs.declared.error.BadWord.{BadWord}
use Rattle.timew_words.specs.Given.{IsGiven}
use Rattle.timew_words.specs.Parts.{Words, words_of, ended}
use Rattle.timew_words.proofs.reading.alone.Goals as goal

-- a command that is given is so where no word is left
ended_given : (command : Command) (words : Words) → IsGiven command → IfOk (ended command words) IsGiven
ended_given command [] given = given
ended_given command (w ∷ words) given = tt

pub as_words-requires : goal.as_words-requires
as_words-requires c =
    subst (λ (r : Result Command BadWord). IfOk r IsGiven) (sym c.ended.ensures) (ended_given c.args.command (words_of c.args.words.now) c.requires)
