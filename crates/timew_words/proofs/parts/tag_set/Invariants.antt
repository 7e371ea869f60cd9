use Rattle.std.proofs.Common.{◌≡◌, [], drop}
use Rattle.timew_words.specs.Given.{AreTags}
use Rattle.timew_words.specs.Parts.{words_of, tags_with}
use Rattle.timew_words.proofs.parts.tag_set.Given as goal

abbrev pub invariant-loop-word : goal.invariant-loop-word
invariant-loop-word l = record {
  value : tags_with l.tags.keys (words_of (drop l.word-index l.words)) ≡ tags_with [] (words_of l.words);
  good : AreTags l.tags.keys;
}
