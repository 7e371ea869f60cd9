use Rattle.std.proofs.Common.{◌≡◌, ℕ, List, [], true}
use Rattle.tw_model.specs.Places.{Places}
use Rattle.tw_numbers.specs.Numbering.{with_ranks}
use Rattle.tw_numbers.specs.Assigned.{is_among, KnowsPlacedAmong}
use Rattle.tw_numbers.proofs.numbering.new_ranks.Given as goal

abbrev pub invariant-loop-uuid : goal.invariant-loop-uuid
invariant-loop-uuid l =
    ((places : Places) → KnowsPlacedAmong l.touched.keys l.placed places → with_ranks places l.tasks l.ranks.keys l.uuid-iterator ≡ with_ranks places l.tasks [] l.touched.keys)
    × ((u : List ℕ) → is_among l.uuid-iterator u ≡ true → is_among l.touched.keys u ≡ true)
