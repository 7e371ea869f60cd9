-- what is left gives what all give
use Rattle.std.proofs.Common.{◌≡◌, drop}
use Rattle.tw_words.specs.Readings.{has_empty}
use Rattle.tw_words.specs.Modifications.{rest_words}
use Rattle.tw_words.proofs.changes.reading.has_empty.Given as goal

abbrev pub invariant-loop-n : goal.invariant-loop-n
invariant-loop-n l = has_empty (drop l.n l.line.words) ≡ has_empty (rest_words l.line)
