use Rattle.std.proofs.Common.{◌≡◌, ◌+◌, drop}
use Rattle.timew_words.specs.Parts.{words_of, leading_ids}
use Rattle.timew_words.proofs.parts.leading_ids.Given as goal

abbrev pub invariant-loop-k : goal.invariant-loop-k
invariant-loop-k l = l.k + leading_ids (words_of (drop l.k l.words)) ≡ leading_ids (words_of l.words)
