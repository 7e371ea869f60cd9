use Rattle.std.proofs.Common.{◌≡◌}
use Rattle.tw_model.specs.Ops.{TaskValue}
use Rattle.tw_import.specs.Import.{with_values, with_lists}
use Rattle.tw_import.specs.MemberValues.{fields_in, with_each}
use Rattle.tw_import.proofs.task_of_fields.put_values.Given as goal

abbrev pub invariant-loop-name : goal.invariant-loop-name
invariant-loop-name l = record {
  values : with_values l.draft (fields_in l.name-iterator) ≡ with_values l.initial.draft (fields_in l.fn.fields.entries);
  lists : (task : TaskValue) → with_lists (with_each task l.lists.items) (fields_in l.name-iterator) ≡ with_lists task (fields_in l.fn.fields.entries);
}
