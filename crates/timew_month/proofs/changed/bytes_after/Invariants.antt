use Rattle.std.proofs.Common.{◌≡◌, take}
use Rattle.timew_month.specs.NamedFiles.{bytes_after}
use Rattle.timew_month.specs.Records.{changes_of}
use Rattle.timew_month.proofs.changed.bytes_after.Given as goal

abbrev pub invariant-loop-change : goal.invariant-loop-change
invariant-loop-change l = l.bytes ≡ bytes_after (changes_of (take l.change-index l.changes.items)) l.name l.before
