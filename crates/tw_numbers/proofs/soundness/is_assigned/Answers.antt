use Rattle.std.proofs.Common.{◌∙◌, List, ℕ, subst}
use Rattle.std.specs.List.Sorted.{IsPermutation}
use Rattle.tw_numbers.proofs.OrderedUuids.{sorted_tells}
use Rattle.tw_numbers.proofs.soundness.is_assigned.Goals as goal

pub returns : goal.returns
returns c =
    let us = c.sort_unstable.new.self.items in
    c.are_those_open.ensures
    ∙ sorted_tells c.args.places.now.items c.args.tasks.now us (subst (λ (l : List (List ℕ)). IsPermutation l us) c.in_ok-uuids.ensures c.sort_unstable.ensures.permutation) c.sort_unstable.ensures.sorted
