use Rattle.std.proofs.Common.{◌++◌, ◌∷◌, [], subst, sym, List, ℕ}
use Rattle.std.specs.Prelude.{Option}
use Rattle.tw_numbers.specs.Assigned.{IsIndex}
use Rattle.tw_numbers.proofs.IndexedPlaces.{index_some, index_vacant}
use Rattle.tw_numbers.proofs.indexed.index_place.Goals as goal

pub returns-in_ok-insert-in-Some : goal.returns-in_ok-insert-in-Some
returns-in_ok-insert-in-Some c = λ before after is here once. index_some c.args.index.now c.insert.new.self before after c.args.place.now c.in-Some.uuid c.args.at is here once c.in-Some.is c.in_ok-insert-in-Some.ensures.updates.0

pub returns-in-None : goal.returns-in-None
returns-in-None c = λ before after is here once. subst (λ (p : Option (List ℕ)). IsIndex c.args.index.now (before ++ p ∷ [])) (sym c.in-None.is) (index_vacant c.args.index.now before is)
