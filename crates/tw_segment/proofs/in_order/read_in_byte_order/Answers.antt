use Rattle.std.proofs.Common.{◌∷◌, ap, sym, subst, codes}
use Rattle.std.specs.Option.{IfSome}
use Rattle.json.specs.Token.{key}
use Rattle.tw_model.proofs.Sorted.{if_ok}
use Rattle.tw_segment.specs.Tokens.{NamedAt}
use Rattle.tw_segment.proofs.InOrder.{update_at}
use Rattle.tw_segment.proofs.in_order.read_in_byte_order.Goals as goal

pub returns : goal.returns
returns c =
    let all = key (codes "property") ∷ c.args.reader.now in
    let rest = c.take_last_value.new.reader in
    let at = update_at all c.take_string.new.reader c.take_moment.new.reader c.take_uuid.new.reader rest c.in-Some.property.now c.in-Some-take_moment.at c.in-Some-take_uuid.uuid
    (ap (λ ts. key (codes "property") ∷ ts) c.in-Some.ensures) c.in-Some-take_moment.ensures c.in-Some-take_uuid.ensures _ c.in-Some-take_last_value.ensures in
    if_ok c.update_of.result (λ o e. subst (λ x. IfSome x (λ op. NamedAt (codes "Update") all op rest)) (sym e) at) c.update_of.ensures
