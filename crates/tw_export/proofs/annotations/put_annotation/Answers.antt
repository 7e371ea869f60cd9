use Rattle.std.proofs.Common.{◌++◌, ◌∷◌, [], codes, ap, ◌∙◌}
use Rattle.json.specs.Token.{begin_object, key, string, end_object}
use Rattle.tw_time.specs.Basic.{basic}
use Rattle.tw_export.proofs.PropertyLoops.{then_one}
use Rattle.tw_export.proofs.annotations.put_annotation.Goals as goal

pub returns-clause-written : goal.returns-clause-written
returns-clause-written c =
    let old = c.args.writer.now.tokens in
    let text = string c.value.result.now in
    let at = string (basic c.args.rank.0) in
    let b = begin_object in
    let d = key (codes "description") in
    let e = key (codes "entry") in
    let t1 = c.in_ok-begin_object.ensures.ok in
    let t2 = then_one old (b ∷ []) _ _ d t1 c.in_ok-key.ensures.ok in
    let t3 = then_one old (b ∷ d ∷ []) _ _ text t2 c.in_ok-string.ensures.ok in
    let t4 = then_one old (b ∷ d ∷ text ∷ []) _ _ e t3 c.in_ok-key-2.ensures.ok in
    let t5 = then_one old (b ∷ d ∷ text ∷ e ∷ []) _ _ at t4 c.in_ok-put_moment.ensures.written in
    then_one old (b ∷ d ∷ text ∷ e ∷ at ∷ []) _ _ end_object t5 c.in_ok-end_object.ensures.ok
    ∙ ap (λ v. old ++ (b ∷ d ∷ string v ∷ e ∷ at ∷ end_object ∷ [])) c.value.ensures
