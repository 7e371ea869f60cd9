use Rattle.std.proofs.Common.{◌≡◌, drop}
use Rattle.timew_words.specs.Parts.{words_of, adjusts}
use Rattle.timew_words.proofs.word.adjusts.Given as goal

abbrev pub invariant-loop-word : goal.invariant-loop-word
invariant-loop-word l = adjusts (words_of (drop l.word-index l.words)) ≡ adjusts (words_of l.words)
