use Rattle.std.proofs.Common.{◌≡◌, ◌++◌, drop, map, filter}
use Rattle.std.specs.String.{string_bytes}
use Rattle.timew_interval.specs.MonthName.{is_month_name}
use Rattle.timew_store.proofs.folder.months_among.Given as goal

abbrev pub invariant-loop-name : goal.invariant-loop-name
invariant-loop-name l = l.months.items ++ filter is_month_name (map string_bytes (drop l.name-index l.names.items)) ≡ filter is_month_name (map string_bytes l.names.items)
