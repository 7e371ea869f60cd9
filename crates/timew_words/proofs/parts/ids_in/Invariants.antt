use Rattle.std.proofs.Common.{◌≡◌, [], drop}
use Rattle.timew_words.specs.Parts.{words_of, ids_with}
use Rattle.timew_words.proofs.parts.ids_in.Given as goal

abbrev pub invariant-loop-word : goal.invariant-loop-word
invariant-loop-word l = ids_with l.ids (words_of (drop l.word-index l.words)) ≡ ids_with [] (words_of l.words)
