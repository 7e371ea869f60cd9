use Rattle.std.proofs.Common.{sym, ap, ◌∙◌}
use Rattle.std.specs.Option.{option_copied}
use Rattle.std.specs.FinMap.{from_sorted}
use Rattle.tw_model.specs.Maps.{set_at}
use Rattle.tw_model.proofs.Sorted.{on_ok, from_put, from_where, where_sorted}
use Rattle.tw_model.proofs.properties.put_there.Goals as goal

pub returns-in-Some-clause-ok : goal.returns-in-Some-clause-ok
returns-in-Some-clause-ok c =
    let es = c.args.entries.now.items in
    let k = c.args.property.now in
    let v = c.in-Some.value.now in
    on_ok c.put_property.result (λ e.
    (from_put es c.put_property.new.entries.items k v c.requires.sorted e).set
    ∙ ap (λ o. set_at (from_sorted es) k (option_copied o)) (sym c.in-Some.is)) c.put_property.ensures.ok

pub returns-in-None-clause-sorted : goal.returns-in-None-clause-sorted
returns-in-None-clause-sorted c =
    where_sorted c.args.entries.now.items _ c.args.property.now c.requires.sorted (c.remove_property.ensures c.args.property.now c.requires.sorted c.requires.found c.requires.absent)

pub returns-in-None-clause-ok : goal.returns-in-None-clause-ok
returns-in-None-clause-ok c =
    let es = c.args.entries.now.items in
    let k = c.args.property.now in
    (from_where es c.remove_property.new.entries.items k c.requires.sorted (c.remove_property.ensures k c.requires.sorted c.requires.found c.requires.absent)).set
    ∙ ap (λ o. set_at (from_sorted es) k (option_copied o)) (sym c.in-None.is)
