use Rattle.std.specs.Prelude.{string_bytes}
use Rattle.std.proofs.Common.{◌≡◌, true, drop}
use Rattle.tw_text.specs.Columns.{cell_text}
use Rattle.timew_interval.specs.Interval.{is_printable}
use Rattle.timew_words.specs.Parts.{words_of, spaced}
use Rattle.timew_words.proofs.parts.spaced.Given as goal

abbrev pub invariant-loop-word : goal.invariant-loop-word
invariant-loop-word l = record {
  value : spaced (string_bytes l.text) (words_of (drop l.word-index l.words)) ≡ spaced (cell_text l.first.text.now) (words_of l.words);
  printable : is_printable (string_bytes l.text) ≡ true;
}
