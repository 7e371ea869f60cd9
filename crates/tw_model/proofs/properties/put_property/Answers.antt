use Rattle.std.proofs.Common.{◌∙◌, set, [], subst, IfOk, IfErr}
use Rattle.std.specs.List.{insert}
use Rattle.tw_model.specs.Maps.{IsFoundAt, IsGap}
use Rattle.tw_model.proofs.Sorted.{put_found, put_gap, key_found, put_sorted}
use Rattle.tw_model.proofs.properties.put_property.Goals as goal

pub returns-in-Ok-clause-ok : goal.returns-in-Ok-clause-ok
returns-in-Ok-clause-ok c =
    let es = c.args.entries.now.items in
    let k = c.args.property.now in
    let at = c.in-Ok.place in
    let f : IsFoundAt es k at = subst (λ r. IfOk r (IsFoundAt es k)) c.in-Ok.is c.requires.found in
    (λ i. set es at (key_found es k at c.index_mut-entry.result.now f c.index_mut-entry.ensures.value i, c.in_ok-value.ensures i))
    ∙ put_found k es at ([], []) c.args.value.now c.requires.sorted f.within (f.same ([], []))

pub returns-in_ok-insert-in-Err-clause-ok : goal.returns-in_ok-insert-in-Err-clause-ok
returns-in_ok-insert-in-Err-clause-ok c =
    let es = c.args.entries.now.items in
    let k = c.args.property.now in
    let at = c.in-Err.place in
    c.in_ok-insert-in-Err.ensures.items
    ∙ (λ i. insert es at (c.in_ok-name-in-Err.ensures i, c.in_ok-value.ensures i))
    ∙ put_gap k es at c.args.value.now (subst (λ r. IfErr r (IsGap k es)) c.in-Err.is c.requires.absent)

pub returns-in_ok-insert-in-Err-clause-sorted : goal.returns-in_ok-insert-in-Err-clause-sorted
returns-in_ok-insert-in-Err-clause-sorted c = put_sorted c.args.entries.now.items _ c.args.property.now c.args.value.now c.requires.sorted (returns-in_ok-insert-in-Err-clause-ok c)

pub returns-in-Ok-clause-sorted : goal.returns-in-Ok-clause-sorted
returns-in-Ok-clause-sorted c = put_sorted c.args.entries.now.items _ c.args.property.now c.args.value.now c.requires.sorted (returns-in-Ok-clause-ok c)
