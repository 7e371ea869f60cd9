-- The commands: task(1), under "SUBCOMMANDS".
use Rattle.std.specs.Prelude.{◌≡◌, ℕ, Bool, true, false, List, [], ◌∷◌, ◌++◌, Option, Some, map, codes}
use Rattle.tw_time.specs.Tables.{look_up}
use Rattle.tw_words.specs.declared.command.AnyCommand.{AnyCommand}
use Rattle.tw_words.specs.declared.command.AnyCommand.TheVariants.{Tasks, Sync, Generate}
use Rattle.tw_words.specs.declared.command.Command.{Command}
use Rattle.tw_words.specs.declared.command.Command.TheVariants.{Add, Log, Modify, Append, Prepend, Annotate, Denotate, Done, Delete, Purge}
use Rattle.tw_words.specs.declared.command.Command.TheVariants.{Start, Stop, Duplicate, Undo, Import, Count, Ids, Uuids, Export}
use Rattle.tw_words.specs.declared.command.Command.TheVariants.{Information, Projects, Tags, Next, All, Completed, Waiting, Blocked}
use Rattle.tw_words.specs.declared.command.Command.TheVariants as command
use Rattle.tw_words.specs.declared.command.Filtering.{Filtering}
use Rattle.tw_words.specs.declared.command.Filtering.TheVariants as filtering
use Rattle.tw_words.specs.declared.command.Rest.{Rest}
use Rattle.tw_words.specs.declared.command.Rest.TheVariants as rest

-- a command's word, whether it has a filter, and what the words after it are
pub record Form : Type 0 where
  pub word : List ℕ
  pub filtering : Filtering
  pub rest : Rest

abbrev pub form : List ℕ → Filtering → Rest → Form
form word filtering rest = record { word = word; filtering = filtering; rest = rest }

-- the table of commands that have a plan over tasks
abbrev pub form_over : Command → Form
form_over Add = form (codes "add") filtering.Nothing rest.Modifications
form_over Log = form (codes "log") filtering.Nothing rest.Modifications
form_over Modify = form (codes "modify") filtering.Needed rest.Modifications
form_over Append = form (codes "append") filtering.Needed rest.Text
form_over Prepend = form (codes "prepend") filtering.Needed rest.Text
form_over Annotate = form (codes "annotate") filtering.Needed rest.Text
form_over Denotate = form (codes "denotate") filtering.Needed rest.Text
form_over Done = form (codes "done") filtering.Needed rest.Nothing
form_over Delete = form (codes "delete") filtering.Needed rest.Nothing
form_over Purge = form (codes "purge") filtering.Needed rest.Nothing
form_over Start = form (codes "start") filtering.Needed rest.Nothing
form_over Stop = form (codes "stop") filtering.Needed rest.Nothing
form_over Duplicate = form (codes "duplicate") filtering.Needed rest.Modifications
form_over Undo = form (codes "undo") filtering.Nothing rest.Nothing
form_over Import = form (codes "import") filtering.Nothing rest.Dash
form_over Count = form (codes "count") filtering.Free rest.Filter
form_over Ids = form (codes "ids") filtering.Free rest.Filter
form_over Uuids = form (codes "uuids") filtering.Free rest.Filter
form_over Export = form (codes "export") filtering.Free rest.Filter
form_over Information = form (codes "information") filtering.Needed rest.Filter
form_over Projects = form (codes "projects") filtering.Free rest.Filter
form_over Tags = form (codes "tags") filtering.Free rest.Filter
form_over command.List = form (codes "list") filtering.Free rest.Filter
form_over Next = form (codes "next") filtering.Free rest.Filter
form_over All = form (codes "all") filtering.Free rest.Filter
form_over Completed = form (codes "completed") filtering.Free rest.Filter
form_over Waiting = form (codes "waiting") filtering.Free rest.Filter
form_over Blocked = form (codes "blocked") filtering.Free rest.Filter

-- the table of commands
abbrev pub form_of : AnyCommand → Form
form_of (Tasks command) = form_over command
form_of Sync = form (codes "sync") filtering.Nothing rest.Nothing
form_of Generate = form (codes "_generate") filtering.Nothing rest.Numbers

abbrev pub all_over_tasks : List Command
all_over_tasks =
    Add ∷ Log ∷ Modify ∷ Append ∷ Prepend ∷ Annotate ∷ Denotate ∷ Done ∷ Delete ∷ Purge
    ∷ Start ∷ Stop ∷ Duplicate ∷ Undo ∷ Import ∷ Count ∷ Ids ∷ Uuids ∷ Export
    ∷ Information ∷ Projects ∷ Tags ∷ command.List ∷ Next ∷ All ∷ Completed ∷ Waiting ∷ Blocked ∷ []

abbrev pub all_commands : List AnyCommand
all_commands = map (λ command. Tasks command) all_over_tasks ++ Sync ∷ Generate ∷ []

-- the command that a word names
unfoldable pub command_named : List ℕ → Option AnyCommand
command_named word = look_up word (map (λ command. ((form_of command).word, command)) all_commands)

-- the word of each command names that one
abbrev pub EachWordNamesItsCommand : Type 0
EachWordNamesItsCommand = (command : AnyCommand) → command_named (form_of command).word ≡ Some command

-- whether a command has a filter
abbrev pub filtering_of : AnyCommand → Filtering
filtering_of command = (form_of command).filtering

-- what the words after a command are
abbrev pub rest_of : AnyCommand → Rest
rest_of command = (form_of command).rest

-- whether a command changes tasks that drive intervals: all that write a record but the import and the reports
abbrev pub drives : Command → Bool
drives Import = false
drives Count = false
drives Ids = false
drives Uuids = false
drives Export = false
drives Information = false
drives Projects = false
drives Tags = false
drives command.List = false
drives Next = false
drives All = false
drives Completed = false
drives Waiting = false
drives Blocked = false
drives command = true
