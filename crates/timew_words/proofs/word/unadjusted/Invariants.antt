use Rattle.std.proofs.Common.{◌≡◌, ◌++◌, drop}
use Rattle.timew_words.specs.Parts.{words_of, unadjusted}
use Rattle.timew_words.proofs.word.unadjusted.Given as goal

abbrev pub invariant-loop-word : goal.invariant-loop-word
invariant-loop-word l = words_of l.others.items ++ unadjusted (words_of (drop l.word-index l.words)) ≡ unadjusted (words_of l.words)
