use Rattle.std.proofs.Common.{◌≡◌, drop, fold}
use Rattle.timew_month.specs.Tail.{start, stepped, reading_of}
use Rattle.timew_month.proofs.read.reader.marked_by_steps.Given as goal

abbrev pub invariant-loop-byte : goal.invariant-loop-byte
invariant-loop-byte l = fold stepped (reading_of l.reader) (drop l.byte-index l.bytes) ≡ fold stepped start l.bytes
