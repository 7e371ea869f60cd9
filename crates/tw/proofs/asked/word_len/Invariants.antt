use Rattle.std.proofs.Common.{◌≡◌, ◌+◌, drop}
use Rattle.tw.specs.Asked.{word_len}
use Rattle.tw.proofs.asked.word_len.Given as goal

abbrev pub invariant-loop-byte : goal.invariant-loop-byte
invariant-loop-byte l = (l.len ≡ l.byte-index) × (l.byte-index + word_len (drop l.byte-index l.bytes) ≡ word_len l.bytes)
