use Rattle.std.proofs.Common.{◌≡◌, ◌+◌, ◌*◌, ◌++◌, length, take}
use Rattle.std.specs.List.{flat_map}
use Rattle.tw_records.specs.Bodies.{named}
use Rattle.tw_records.proofs.block.put_entries.Given as goal

abbrev pub invariant-loop-entry : goal.invariant-loop-entry
invariant-loop-entry l = record {
  items : l.body.items ≡ l.fn.body.items ++ flat_map named (take l.entry-index l.entries);
  long : length l.body.items ≡ length l.fn.body.items + 48 * l.entry-index;
}
