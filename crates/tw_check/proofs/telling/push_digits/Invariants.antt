use Rattle.std.proofs.Common.{◌≡◌, ◌++◌, drop}
use Rattle.tw_check.specs.Texts.{digits}
use Rattle.tw_check.proofs.telling.push_digits.Given as goal

abbrev pub invariant-loop-byte : goal.invariant-loop-byte
invariant-loop-byte l = l.text.items ++ digits (drop l.byte-index l.bytes) ≡ l.fn.text.items ++ digits l.bytes
