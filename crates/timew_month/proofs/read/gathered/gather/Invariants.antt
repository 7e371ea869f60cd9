use Rattle.std.proofs.Common.{◌≡◌, ◌++◌, List, drop}
use Rattle.timew_month.specs.Rows.{Found}
use Rattle.timew_month.specs.Gathered.{AreLines, files_of, lines_in}
use Rattle.timew_month.proofs.read.gathered.gather.Given as goal

abbrev pub invariant-loop-file : goal.invariant-loop-file
invariant-loop-file l = (now : List Found) × AreLines now l.gathered × (now ++ lines_in (files_of (drop l.file-index l.files.items)) ≡ lines_in (files_of l.files.items))
