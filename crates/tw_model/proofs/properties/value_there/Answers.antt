use Rattle.std.proofs.Common.{sym, ap, subst, ◌∙◌, Some, IfOk, IfErr}
use Rattle.tw_model.proofs.Sorted.{get_found, get_gap}
use Rattle.tw_model.specs.Maps.{IsFoundAt, IsGap}
use Rattle.tw_model.proofs.properties.value_there.Goals as goal

pub returns-in-Ok : goal.returns-in-Ok
returns-in-Ok c k sorted found absent =
    ap Some c.as_str.ensures
    ∙ sym (get_found c.args.entries.now.items k c.in-Ok.place c.index-entry.result.now sorted (subst (λ r. IfOk r (IsFoundAt c.args.entries.now.items k)) c.in-Ok.is found) c.index-entry.ensures)

pub returns-in-Err : goal.returns-in-Err
returns-in-Err c k sorted found absent = sym (get_gap c.args.entries.now.items k c.in-Err.field-0 sorted (subst (λ r. IfErr r (IsGap k c.args.entries.now.items)) c.in-Err.is absent))
