use Rattle.std.proofs.Common.{◌∙◌, ◌++◌, ap, subst, sym, map, List}
use Rattle.tw_numbers.specs.Numbering.{Rank, place_of}
use Rattle.tw_numbers.specs.Assigned.{IsOnce}
use Rattle.tw_numbers.proofs.IndexedPlaces.{once_front}
use Rattle.tw_numbers.proofs.indexed.push_places.Goals as goal

pub push_place-requires-clause-free : goal.push_place-requires-clause-free
push_place-requires-clause-free c =
    once_front c.loop-rank.places.items (map place_of c.next.new.self) c.in-Some.rank.now.2
    (subst IsOnce (sym c.loop-rank.invariant.1 ∙ ap (λ (rs : List Rank). c.loop-rank.places.items ++ map place_of rs) c.in-Some.ensures.steps) c.requires.once)
