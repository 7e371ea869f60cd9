-- Changes and records, as they are held.
use Rattle.std.specs.Prelude.{List, map}
use Rattle.timew_month.specs.Body.{FileChange, Step}
use Rattle.timew_month.specs.Body.Step.{Change, Undo}
use Rattle.timew_month.specs.declared.body.Record.{Record}
use Rattle.timew_month.specs.declared.body.Record.TheVariants as held
use Rattle.timew_month.specs.declared.months.NewFile.{NewFile}

-- without its address in memory
abbrev pub change_of : NewFile → FileChange
change_of f = record { name = f.name; old = f.old.items; new = f.new.items }

abbrev pub changes_of : List NewFile → List FileChange
changes_of = map change_of

-- the step that a record holds
abbrev pub step_in : Record → Step
step_in (held.Change files) = Change (changes_of files.items)
step_in (held.Undo files) = Undo (changes_of files.items)

abbrev pub files_held : Record → List NewFile
files_held (held.Change files) = files.items
files_held (held.Undo files) = files.items
