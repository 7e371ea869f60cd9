use Rattle.std.proofs.Common.{◌∙◌, [], subst, IfOk, IfErr}
use Rattle.tw_model.specs.Maps.{IsFoundAt, IsGap}
use Rattle.tw_model.proofs.Sorted.{remove_found, where_gap}
use Rattle.tw_model.proofs.properties.remove_property.Goals as goal

pub returns-in-Ok : goal.returns-in-Ok
returns-in-Ok c k sorted found absent =
    let es = c.args.entries.now.items in
    let f : IsFoundAt es k c.in-Ok.place = subst (λ r. IfOk r (IsFoundAt es k)) c.in-Ok.is found in
    c.remove.ensures.items ∙ remove_found k es c.in-Ok.place ([], []) sorted f.within (f.same ([], []))

pub returns-in-Err : goal.returns-in-Err
returns-in-Err c k sorted found absent =
    let es = c.args.entries.now.items in
    where_gap es k c.in-Err.field-0 (subst (λ r. IfErr r (IsGap k es)) c.in-Err.is absent)
