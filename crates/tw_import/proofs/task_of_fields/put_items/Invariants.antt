use Rattle.std.proofs.Common.{◌≡◌, drop}
use Rattle.tw_import.specs.Import.{with_items}
use Rattle.tw_import.specs.MemberValues.{items_in}
use Rattle.tw_import.specs.Seconds.{AreSkips}
use Rattle.tw_import.proofs.task_of_fields.put_items.Given as goal

abbrev pub invariant-loop-item : goal.invariant-loop-item
invariant-loop-item l = record {
  skips : AreSkips l.draft l.skips.entries;
  left : with_items l.draft (items_in (drop l.item-index l.items.items)) ≡ with_items l.initial.draft (items_in l.items.items);
}
