use Rattle.std.proofs.Common.{◌≡◌, length, take, vec_capacity}
use Rattle.tw_server.specs.Index.{IsIndexOf, keys_of}
use Rattle.tw_server.proofs.index.Index.fill_again.Given as goal

abbrev pub invariant-loop-entry : goal.invariant-loop-entry
invariant-loop-entry l = record {
  index : IsIndexOf l.self (keys_of l.by_parent (take l.entry-index l.entries));
  ends : length l.self.ends.items ≡ length l.fn.self.ends.items;
  capacity : vec_capacity l.self.before ≡ vec_capacity l.fn.self.before;
}
