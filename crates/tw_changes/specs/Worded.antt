-- The modification words of a request are taken: task(1), under "MODIFICATIONS".
use Rattle.std.specs.Prelude.{◌≡◌, List, None, Ok}
use Rattle.tw_terms.specs.Scenes.{Scene}
use Rattle.tw_terms.specs.declared.token.Token.{Token}
use Rattle.tw_words.specs.Lines.{Parts}
use Rattle.tw_words.specs.Commands.{rest_of}
use Rattle.tw_words.specs.Readings.{modifications, taken}
use Rattle.tw_words.specs.Faults.{judged}
use Rattle.tw_words.specs.Unnamed.{first_unnamed}
use Rattle.tw_words.specs.declared.command.Rest.TheVariants as rest

-- no word is wrong if the line was judged and its words name tasks
abbrev pub WordsAreTaken : Type 0
WordsAreTaken = (scene : Scene) (line : Parts) (filter : List Token) → rest_of line.command ≡ rest.Modifications
    → judged line scene.now scene.tz ≡ Ok filter → first_unnamed scene line ≡ None → modifications scene line ≡ Ok (taken scene line)
