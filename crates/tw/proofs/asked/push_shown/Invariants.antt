use Rattle.std.proofs.Common.{◌≡◌, ◌++◌, map, take}
use Rattle.tw.specs.Asked.{shown}
use Rattle.tw.proofs.asked.push_shown.Given as goal

abbrev pub invariant-loop-byte : goal.invariant-loop-byte
invariant-loop-byte l = l.line.items ≡ l.fn.line.items ++ map shown (take l.byte-index l.word)
