-- the words left ask for help if all do
use Rattle.std.proofs.Common.{◌≡◌, drop, map, string_bytes}
use Rattle.tw_hints.specs.Words.{asks_for_help}
use Rattle.tw_hints.proofs.words.asks_for_help.Given as goal

abbrev pub invariant-loop-word : goal.invariant-loop-word
invariant-loop-word l = asks_for_help (map string_bytes (drop l.word-index l.words.items)) ≡ asks_for_help (map string_bytes l.words.items)
