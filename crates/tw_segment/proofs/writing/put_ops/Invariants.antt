use Rattle.std.proofs.Common.{◌≡◌, ◌++◌, take, drop}
use Rattle.std.specs.List.{All}
use Rattle.tw_segment.specs.Segment.{IsReadBack}
use Rattle.tw_segment.specs.Tokens.{ops_tokens}
use Rattle.tw_segment.proofs.writing.put_ops.Given as goal

abbrev pub invariant-loop-op : goal.invariant-loop-op
invariant-loop-op l = record {
  written : l.writer.tokens ++ ops_tokens (drop l.op-index l.ops.items) ≡ l.fn.writer.tokens ++ ops_tokens l.ops.items;
  before : l.writer.before ≡ l.fn.writer.before;
  back : All IsReadBack (take l.op-index l.ops.items);
}
