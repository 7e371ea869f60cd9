use Rattle.std.proofs.Common.{◌≡◌}
use Rattle.tw_import.specs.Import.{has_description}
use Rattle.tw_import.specs.MemberValues.{fields_in}
use Rattle.tw_import.proofs.task_of_fields.has_description.Given as goal

abbrev pub invariant-loop-name : goal.invariant-loop-name
invariant-loop-name l = has_description (fields_in l.name-iterator) ≡ has_description (fields_in l.fields.entries)
