-- After a change to intervals the month files hold these intervals.
use Rattle.std.proofs.Common.{◌≡◌, List, [], Ok}
use Rattle.std.specs.List.{AllByRecursion}
use Rattle.tw_world.specs.Folder.{Files}
use Rattle.timew_interval.specs.declared.interval.Interval.{Interval}
use Rattle.timew_month.specs.Files.{replaced}
use Rattle.timew_interval.specs.Interval.{AreRows}
use Rattle.timew_month.specs.Rows.{rows_of}
use Rattle.timew_month.specs.Changes.{changes_to}
use Rattle.timew_interval.specs.ReadBack.{IsWritable}
use Rattle.timew_month.proofs.LaterMonths.{rows_months_rise, names_good}
use Rattle.timew_month.proofs.OneLine.{all_back, all_dated}
use Rattle.timew_month.proofs.ChangedFiles.{rows_stored, none_empty}

pub files_hold_rows : (files : Files) (rows : List Interval) → AreRows rows → AllByRecursion IsWritable rows → rows_of (replaced files (changes_to files rows)) ≡ Ok rows
files_hold_rows files rows are all = let dated = all_dated rows all in rows_stored files rows are (all_back rows all) (rows_months_rise rows are dated) (names_good rows dated) (none_empty [] rows)
