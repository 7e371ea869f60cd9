use Rattle.std.specs.Prelude.{string_bytes}
use Rattle.std.proofs.Common.{◌≡◌, ◌+◌, ◌++◌, map, drop}
use Rattle.timew_words.specs.Parts.{words_of, words_from}
use Rattle.timew_words.proofs.word.words_behind.Given as goal

abbrev pub invariant-loop-text : goal.invariant-loop-text
invariant-loop-text l = (words_of l.words.items ++ words_from l.number (map string_bytes (drop l.text-index l.texts)) ≡ words_from 1 (map string_bytes l.texts)) × (l.number ≡ l.text-index + 1)
