use Rattle.std.proofs.Common.{◌≡◌, ◌+◌, ◌≤◌, ◌++◌, List, length}
use Rattle.timew_month.specs.Month.{lines}
use Rattle.timew_month.specs.Rows.{Found, found_from}
use Rattle.timew_month.specs.Gathered.{AreLines}
use Rattle.timew_month.proofs.read.gathered.gather_file.Given as goal

abbrev pub invariant-loop-tails : goal.invariant-loop-tails
invariant-loop-tails l = (l.number + length l.rest ≤ length l.file.bytes.items + 1)
    × ((found : List Found) → AreLines found l.fn.gathered → (now : List Found) × AreLines now l.gathered × (now ++ found_from l.file.name l.number (lines l.rest) ≡ found ++ found_from l.file.name 1 (lines l.file.bytes.items)))

abbrev pub decreases-loop-tails : goal.decreases-loop-tails
decreases-loop-tails l = length l.rest
