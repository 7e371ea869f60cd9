use Rattle.std.proofs.Common.{◌≡◌, ◌-◌, ◌≤◌, length, drop}
use Rattle.timew_month.specs.Body.{names_rise}
use Rattle.timew_month.specs.Records.{changes_of}
use Rattle.timew_month.proofs.body.names_rise.Given as goal

abbrev pub invariant-loop-at : goal.invariant-loop-at
invariant-loop-at l = (1 ≤ l.at) × (names_rise (changes_of (drop (l.at - 1) l.files.items)) ≡ names_rise (changes_of l.files.items))

abbrev pub decreases-loop-at : goal.decreases-loop-at
decreases-loop-at l = length l.files.items - l.at
