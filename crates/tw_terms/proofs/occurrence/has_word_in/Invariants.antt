-- what is left gives what all gives
use Rattle.std.proofs.Common.{◌≡◌, false, drop}
use Rattle.tw_terms.specs.Occurs.{has_word}
use Rattle.tw_terms.proofs.occurrence.has_word_in.Given as goal

abbrev pub invariant-loop-at : goal.invariant-loop-at
invariant-loop-at l = has_word l.before l.value (drop l.at l.text) ≡ has_word false l.value l.text
