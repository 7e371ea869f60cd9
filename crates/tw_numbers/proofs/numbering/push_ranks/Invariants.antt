use Rattle.std.proofs.Common.{◌≡◌, ◌++◌, map}
use Rattle.tw_numbers.specs.Numbering.{place_of}
use Rattle.tw_numbers.proofs.numbering.push_ranks.Given as goal

abbrev pub invariant-loop-rank : goal.invariant-loop-rank
invariant-loop-rank l = l.places.items ++ map place_of l.rank-iterator ≡ l.fn.places.items ++ map place_of l.ranks.keys
