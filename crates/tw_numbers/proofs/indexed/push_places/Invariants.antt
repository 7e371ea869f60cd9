use Rattle.std.proofs.Common.{◌≡◌, ◌++◌, map}
use Rattle.tw_numbers.specs.Numbering.{place_of}
use Rattle.tw_numbers.specs.Assigned.{IsIndex}
use Rattle.tw_numbers.proofs.indexed.push_places.Given as goal

abbrev pub invariant-loop-rank : goal.invariant-loop-rank
invariant-loop-rank l = IsIndex l.index l.places.items × (l.places.items ++ map place_of l.rank-iterator ≡ l.fn.places.items ++ map place_of l.ranks.keys)
