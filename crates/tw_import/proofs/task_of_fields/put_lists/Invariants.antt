use Rattle.std.proofs.Common.{◌≡◌, drop}
use Rattle.tw_import.specs.MemberValues.{with_each}
use Rattle.tw_import.proofs.task_of_fields.put_lists.Given as goal

abbrev pub invariant-loop-items : goal.invariant-loop-items
invariant-loop-items l = with_each l.draft (drop l.items-index l.lists.items) ≡ with_each l.initial.draft l.lists.items
