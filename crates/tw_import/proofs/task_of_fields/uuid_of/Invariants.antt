use Rattle.std.proofs.Common.{◌≡◌}
use Rattle.tw_import.specs.Import.{uuid_of}
use Rattle.tw_import.specs.MemberValues.{fields_in}
use Rattle.tw_import.proofs.task_of_fields.uuid_of.Given as goal

abbrev pub invariant-loop-value : goal.invariant-loop-value
invariant-loop-value l = uuid_of (fields_in l.value-iterator) ≡ uuid_of (fields_in l.fields.entries)
