use Rattle.std.proofs.Common.{◌<◌, length, sym, arith}
use Rattle.tw_numbers.proofs.IndexedPlaces.{uuid_at_below, without_none}
use Rattle.tw_numbers.proofs.FoundByScan.{found_vacant}
use Rattle.tw_numbers.proofs.few.vacate.Goals as goal

pub index_mut-requires : goal.index_mut-requires
index_mut-requires c =
    let below : c.in-Some.at < length c.args.places.now.items = uuid_at_below c.args.places.now.items c.args.uuid c.in-Some.at c.in-Some.ensures.found in
    omega arith

pub returns-in-Some : goal.returns-in-Some
returns-in-Some c = λ once. found_vacant c.args.places.now.items c.args.uuid c.in-Some.at once c.in-Some.ensures.found

pub returns-in-None : goal.returns-in-None
returns-in-None c = λ once. sym (without_none c.args.places.now.items c.args.uuid c.in-None.ensures.none)
