use Rattle.std.proofs.Common.{◌≡◌, drop}
use Rattle.timew_month.specs.Gathered.{files_of}
use Rattle.timew_month.specs.NamedFiles.{bytes_in}
use Rattle.timew_month.proofs.months.bytes_in.Given as goal

abbrev pub invariant-loop-file : goal.invariant-loop-file
invariant-loop-file l = bytes_in (files_of (drop l.file-index l.files.items)) l.name ≡ bytes_in (files_of l.files.items) l.name
