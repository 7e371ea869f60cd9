use Rattle.std.proofs.Common.{ap, ◌∙◌}
use Rattle.timew_interval.specs.Interval.{is_printable}
use Rattle.timew_words.specs.Parts.{words_of, spaced}
use Rattle.timew_words.proofs.Printable.{cell_printable, spaced_printable}
use Rattle.timew_words.proofs.WordsHere.{spaced_more}
use Rattle.timew_words.proofs.parts.spaced.Goals as goal

pub loop-word-init : goal.loop-word-init
loop-word-init c = record {
  value = ap (λ text. spaced text (words_of c.args.words.now)) c.in_ok-text.ensures;
  printable = ap is_printable c.in_ok-text.ensures ∙ cell_printable c.args.first.now.text.now;
}

pub loop-word-preserved : goal.loop-word-preserved
loop-word-preserved c = record {
  value = spaced_more c.args.words.now c.loop-word.word-index _ _ _ _ c.loop-word-test.true c.in_ok-push_spaced.ensures c.loop-word.invariant.value;
  printable = spaced_printable _ _ _ c.in_ok-push_spaced.ensures c.loop-word.invariant.printable;
}
