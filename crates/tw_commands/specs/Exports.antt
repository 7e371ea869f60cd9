-- Laws of two runs over equal tasks: what a filter without numbers selects, and what `export` prints of that.
use Rattle.std.specs.Prelude.{◌≡◌, ℕ, Bool, true, false, List}
use Rattle.std.specs.List.{list_any}
use Rattle.tw_world.specs.declared.ids.IdWords.{IdWords}
use Rattle.tw_model.specs.Ops.{TaskValue}
use Rattle.tw_state.specs.State.{State}
use Rattle.tw_terms.specs.declared.id_word.Name.{Name}
use Rattle.tw_terms.specs.declared.id_word.Name.TheVariants.{Numbers, One}
use Rattle.tw_terms.specs.declared.term.Test.{Test}
use Rattle.tw_terms.specs.declared.term.Test.TheVariants.{DependsOnNumber}
use Rattle.tw_terms.specs.declared.token.Token.{Token}
use Rattle.tw_terms.specs.declared.token.Token.TheVariants.{Named, Asked}
use Rattle.tw_settings.specs.Weights.{weights}
use Rattle.tw_words.specs.declared.command.Command.TheVariants.{Export}
use Rattle.tw_commands.specs.Request.{selected_in}
use Rattle.tw_commands.specs.Carried.{Carried}
use Rattle.tw_commands.specs.Laws.{IsCarriedOut}
use Rattle.tw_changes.specs.declared.request.Request.{Request}

-- ---- filters without numbers

-- whether a name is that of numbers
abbrev pub is_of_numbers : Name → Bool
is_of_numbers (Numbers first last) = true
is_of_numbers (One u) = false

-- whether a test names a task by its number
abbrev pub asks_number : Test → Bool
asks_number (DependsOnNumber n) = true
asks_number _ = false

-- whether a token does
abbrev pub has_number : Token → Bool
has_number (Named name) = is_of_numbers name
has_number (Asked term) = asks_number term.test
has_number _ = false

-- no token of a filter does
abbrev pub HasNoNumbers : List Token → Type 0
HasNoNumbers filter = list_any has_number filter ≡ false

-- a filter without numbers selects by tasks alone, whatever their numbers, the base and what is pending are
abbrev pub SelectsByTasks : Type 0
SelectsByTasks = (request : Request) (one other : State) → HasNoNumbers request.filter → one.tasks ≡ other.tasks
    → selected_in request one ≡ selected_in request other

-- ---- exports

-- two runs of `export` have the same filter and weights, and are at one moment and in one zone
pub record ExportAlike (one other : Request) : Type 0 where
  pub one_exports : one.command ≡ Export
  pub other_exports : other.command ≡ Export
  pub filter : one.filter ≡ other.filter
  pub at : one.at ≡ other.at
  pub zone : one.zone.now ≡ other.zone.now
  pub weighed : weights one.settings ≡ weights other.settings

-- a request prints this text in a replica of some state, by some uuids that are drawn and tasks that hooks answer
abbrev pub Prints : Request → State → List ℕ → Type 0
Prints request state text =
    (ids : IdWords) × (answers : List TaskValue) × (carried : Carried) × IsCarriedOut request ids answers state carried × (text ≡ carried.text)

-- two such runs by a filter without numbers print equal texts of equal tasks, whatever else the states hold
abbrev pub ExportsAreEqual : Type 0
ExportsAreEqual = (one other : Request) (here there : State) (text copy : List ℕ) → ExportAlike one other → HasNoNumbers one.filter
    → here.tasks ≡ there.tasks → Prints one here text → Prints other there copy → text ≡ copy
