use Rattle.std.proofs.Common.{◌≡◌, map, take, Some}
use Rattle.std.specs.List.{AllByRecursion}
use Rattle.timew_month.specs.Gathered.{files_of, lines_in}
use Rattle.timew_interval.specs.Interval.{IsRow}
use Rattle.timew_month.specs.Known.{AreKnown}
use Rattle.timew_month.proofs.GoodLines.{rows_found}
use Rattle.timew_month.proofs.read.rows.rows_as_they_stand.Given as goal

abbrev pub invariant-loop-at : goal.invariant-loop-at
invariant-loop-at l = record {
  found : rows_found (lines_in (files_of (take l.at l.files.items))) ≡ map Some l.all.items;
  are : AllByRecursion IsRow l.all.items;
  known : AreKnown l.files.items l.all.items l.known.items;
}
