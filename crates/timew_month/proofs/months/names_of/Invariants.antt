use Rattle.std.proofs.Common.{◌≡◌, take}
use Rattle.timew_month.specs.Gathered.{files_of}
use Rattle.timew_month.specs.NamedFiles.{names_in}
use Rattle.timew_month.proofs.months.names_of.Given as goal

abbrev pub invariant-loop-file : goal.invariant-loop-file
invariant-loop-file l = l.names.items ≡ names_in (files_of (take l.file-index l.files.items))
