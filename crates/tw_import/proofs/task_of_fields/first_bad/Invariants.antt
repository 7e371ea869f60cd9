use Rattle.std.proofs.Common.{◌≡◌}
use Rattle.tw_import.specs.Import.{first_bad}
use Rattle.tw_import.specs.MemberValues.{fields_in}
use Rattle.tw_import.proofs.task_of_fields.first_bad.Given as goal

abbrev pub invariant-loop-name : goal.invariant-loop-name
invariant-loop-name l = first_bad (fields_in l.name-iterator) ≡ first_bad (fields_in l.fields.entries)
