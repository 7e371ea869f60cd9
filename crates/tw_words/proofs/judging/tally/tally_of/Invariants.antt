-- what is left gives, after what is gathered, what all give
use Rattle.std.proofs.Common.{◌≡◌, ◌≤◌, drop}
use Rattle.tw_words.specs.Modifications.{tally_from, tally_of}
use Rattle.tw_words.proofs.judging.tally.tally_of.Given as goal

abbrev pub invariant-loop-n : goal.invariant-loop-n
invariant-loop-n l = record {
  same : tally_from l.line l.tally l.n (drop l.n l.line.words) ≡ tally_of l.line;
  few : l.tally.texts ≤ l.n;
}
