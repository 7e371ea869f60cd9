-- the first such word of those left is that of all
use Rattle.std.proofs.Common.{◌≡◌, drop, map, string_bytes}
use Rattle.tw_hints.specs.Settings.{refused_in}
use Rattle.tw_hints.proofs.refused.refused_in.Given as goal

abbrev pub invariant-loop-word : goal.invariant-loop-word
invariant-loop-word l = refused_in (map string_bytes (drop l.word-index l.words.items)) ≡ refused_in (map string_bytes l.words.items)
