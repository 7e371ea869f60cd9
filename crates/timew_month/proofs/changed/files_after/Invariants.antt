use Rattle.std.proofs.Common.{◌≡◌, take, map}
use Rattle.timew_month.specs.Gathered.{files_of}
use Rattle.timew_month.specs.NamedFiles.{bytes_after, bytes_in}
use Rattle.timew_month.specs.Records.{changes_of}
use Rattle.timew_month.proofs.changed.files_after.Given as goal

abbrev pub invariant-loop-name : goal.invariant-loop-name
invariant-loop-name l = files_of l.next.items ≡ map (λ name. (name, bytes_after (changes_of l.changes.items) name (bytes_in (files_of l.files.items) name))) (take l.name-index l.name-items)
