use Rattle.std.proofs.Common.{◌∷◌, sym, subst, codes}
use Rattle.std.specs.Option.{IfSome}
use Rattle.json.specs.Token.{key}
use Rattle.tw_model.proofs.Sorted.{if_ok}
use Rattle.tw_segment.specs.Tokens.{NamedAt}
use Rattle.tw_segment.proofs.InOrder.{declared_at}
use Rattle.tw_segment.proofs.in_order.read_as_declared.Goals as goal

pub returns : goal.returns
returns c =
    let all = key (codes "uuid") ∷ c.args.reader.now in
    let rest = c.take_last_moment.new.reader in
    let at = declared_at all c.take_uuid_text.new.reader c.take_text.new.reader c.take_value.new.reader rest c.in-Some-take_text.property.now c.in-Some-take_last_moment.at c.in-Some.uuid
    c.in-Some.ensures c.in-Some-take_text.ensures _ c.in-Some-take_value.ensures c.in-Some-take_last_moment.ensures in
    if_ok c.update_of.result (λ o e. subst (λ x. IfSome x (λ op. NamedAt (codes "Update") all op rest)) (sym e) at) c.update_of.ensures
