use Rattle.std.proofs.Common.{◌∙◌, sym, ◌<◌, length, arith}
use Rattle.tw_numbers.proofs.IndexedPlaces.{uuid_at_below, known_is_there, unknown_is_nowhere, index_without, index_unchanged}
use Rattle.tw_numbers.proofs.indexed.vacate.Goals as goal

pub index_mut-requires : goal.index_mut-requires
index_mut-requires c =
    let below : c.in-Some.at < length c.args.places.now.items = uuid_at_below c.args.places.now.items c.args.uuid c.in-Some.at (c.requires.there c.args.uuid c.in-Some.at (sym c.take_from.ensures.place ∙ c.in-Some.is)) in
    omega arith

pub returns-in-Some-clause-index : goal.returns-in-Some-clause-index
returns-in-Some-clause-index c = index_without c.args.index.now c.args.places.now.items c.requires c.take_from.new.index c.args.uuid c.in-Some.at (sym c.take_from.ensures.place ∙ c.in-Some.is) c.take_from.ensures.others

pub returns-in-Some-clause-places : goal.returns-in-Some-clause-places
returns-in-Some-clause-places c = known_is_there c.args.index.now c.args.places.now.items c.requires c.args.uuid c.in-Some.at (sym c.take_from.ensures.place ∙ c.in-Some.is)

pub returns-in-None-clause-index : goal.returns-in-None-clause-index
returns-in-None-clause-index c = index_unchanged c.args.index.now c.take_from.new.index c.args.places.now.items c.args.uuid c.requires (sym c.take_from.ensures.place ∙ c.in-None.is) c.take_from.ensures.others

pub returns-in-None-clause-places : goal.returns-in-None-clause-places
returns-in-None-clause-places c = sym (unknown_is_nowhere c.args.index.now c.args.places.now.items c.requires c.args.uuid (sym c.take_from.ensures.place ∙ c.in-None.is))
