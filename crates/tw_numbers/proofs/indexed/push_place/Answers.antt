use Rattle.std.proofs.Common.{◌≡◌, ◌∙◌, ap, subst, sym, cond, Some, length, arith}
use Rattle.std.specs.Ordering.{eq_by_cmp}
use Rattle.std.specs.BTreeMap as tree
use Rattle.tw_model.specs.Maps.{bytes_cmp}
use Rattle.tw_numbers.specs.Assigned.{IsIndex}
use Rattle.tw_numbers.proofs.IndexedPlaces.{index_push}
use Rattle.tw_numbers.proofs.indexed.push_place.Goals as goal

pub returns-clause-index : goal.returns-clause-index
returns-clause-index c =
    let here : c.len.result ≡ length c.args.places.now.items = omega arith in
    subst (IsIndex c.insert.new.self) (sym c.in_ok-push.ensures.items)
    (index_push c.args.index.now c.args.places.now.items c.requires.index c.insert.new.self c.args.uuid c.requires.free
    (λ q. c.in_ok-insert.ensures.updates.0 q ∙ ap (λ n. cond (eq_by_cmp bytes_cmp c.args.uuid q) (Some n) (tree.get bytes_cmp c.args.index.now q)) here))
