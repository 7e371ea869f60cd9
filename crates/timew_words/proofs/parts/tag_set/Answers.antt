use Rattle.std.proofs.Common.{ap, ◌∙◌, ◌+◌, drop}
use Rattle.timew_words.specs.Parts.{words_of, tags_with}
use Rattle.timew_words.proofs.SetOfTags.{insert_is_add, one_tag_more}
use Rattle.timew_words.proofs.WordsHere.{tags_more}
use Rattle.timew_words.proofs.parts.tag_set.Goals as goal

pub loop-word-preserved : goal.loop-word-preserved
loop-word-preserved c = record {
  value = ap (λ keys. tags_with keys (words_of (drop (c.loop-word.word-index + 1) c.args.words.now))) (c.in_ok-insert.ensures.keys ∙ insert_is_add c.loop-word.tags.keys c.in_ok-tag.tag) ∙ tags_more c.args.words.now c.loop-word.word-index _ _ _ _ c.loop-word-test.true c.in_ok-tag.ensures.value c.loop-word.invariant.value;
  good = one_tag_more c.loop-word.tags.keys c.insert.new.self.keys c.in_ok-tag.tag c.in_ok-insert.ensures.keys c.in_ok-tag.ensures.good c.loop-word.invariant.good;
}
