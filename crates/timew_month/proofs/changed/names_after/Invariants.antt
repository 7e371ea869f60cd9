use Rattle.std.proofs.Common.{◌≡◌, drop, fold}
use Rattle.tw_world.specs.Folder.{add_name}
use Rattle.timew_month.specs.Gathered.{files_of}
use Rattle.timew_month.specs.NamedFiles.{names_after}
use Rattle.timew_month.specs.Records.{changes_of}
use Rattle.timew_month.proofs.changed.names_after.Given as goal

abbrev pub invariant-loop-change : goal.invariant-loop-change
invariant-loop-change l = fold (λ had f. add_name f.name had) l.names.items (changes_of (drop l.change-index l.changes.items)) ≡ names_after (files_of l.files.items) (changes_of l.changes.items)
