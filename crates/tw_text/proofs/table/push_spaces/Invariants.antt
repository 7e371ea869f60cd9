use Rattle.std.proofs.Common.{◌≡◌, ◌++◌, replicate}
use Rattle.tw_text.proofs.table.push_spaces.Given as goal

abbrev pub invariant-loop-i : goal.invariant-loop-i
invariant-loop-i l = l.text.items ≡ l.initial.text.items ++ replicate l.i 32
