use Rattle.std.proofs.Common.{◌≡◌, ◌≤◌, ◌+◌, length}
use Rattle.std.specs.Vec.{vec_len, vec_capacity}
use Rattle.timew_month.specs.Gathered.{files_of}
use Rattle.timew_month.specs.NamedFiles.{with_changes}
use Rattle.timew_month.specs.Records.{changes_of}
use Rattle.timew_month.proofs.changed.files_with.Given as goal

abbrev pub invariant-loop-change : goal.invariant-loop-change
invariant-loop-change l =
    (files_of l.next.items ≡ with_changes (files_of l.fn.files.items) (changes_of l.yielded))
    × (vec_len l.next ≤ vec_len l.fn.files + length l.yielded)
    × (vec_len l.fn.files + vec_len l.fn.changes ≤ vec_capacity l.next)
