-- the characters so far and those that are left are all
use Rattle.std.proofs.Common.{◌≡◌, ◌++◌, drop, string_bytes, encode_utf8_all}
use Rattle.tw_changes.proofs.marks.text_of.Given as goal

abbrev pub invariant-loop-c : goal.invariant-loop-c
invariant-loop-c l = string_bytes l.text ++ encode_utf8_all (drop l.c-index l.all.items) ≡ encode_utf8_all l.all.items
