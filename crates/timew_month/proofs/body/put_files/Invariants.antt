use Rattle.std.proofs.Common.{◌≡◌, ◌++◌, drop}
use Rattle.std.specs.List.{flat_map}
use Rattle.timew_month.specs.Body.{file_bytes, files_bytes}
use Rattle.timew_month.specs.Records.{changes_of}
use Rattle.timew_month.proofs.body.put_files.Given as goal

abbrev pub invariant-loop-file : goal.invariant-loop-file
invariant-loop-file l = l.out.items ++ flat_map file_bytes (changes_of (drop l.file-index l.files.items)) ≡ l.fn.out.items ++ files_bytes (changes_of l.files.items)
