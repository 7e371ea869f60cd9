use Rattle.std.proofs.Common.{◌∷◌, [], codes}
use Rattle.json.specs.Token.{begin_object, end_object, key, string}
use Rattle.uuid.specs.Text.{hyphenated_text, lower}
use Rattle.tw_model.proofs.Sorted.{on_ok}
use Rattle.tw_segment.proofs.OpsBack.{then}
use Rattle.tw_segment.proofs.writing.put_named.Goals as goal

pub returns-clause-written : goal.returns-clause-written
returns-clause-written c =
    let old = c.args.writer.now.tokens in
    let b = begin_object in
    let n = key c.args.name.now in
    let u = key (codes "uuid") in
    let s = string (hyphenated_text lower c.args.uuid) in
    let t1 = c.in_ok-begin_object.ensures.ok in
    let t2 = then old (b ∷ []) (n ∷ []) _ _ t1 c.in_ok-key.ensures.ok in
    let t3 = then old (b ∷ n ∷ []) (b ∷ []) _ _ t2 c.in_ok-begin_object-2.ensures.ok in
    let t4 = then old (b ∷ n ∷ b ∷ []) (u ∷ s ∷ []) _ _ t3 c.in_ok-put_uuid.ensures.written in
    let t5 = then old (b ∷ n ∷ b ∷ u ∷ s ∷ []) (end_object ∷ []) _ _ t4 c.in_ok-end_object.ensures.ok in
    on_ok c.end_object-2.result (then old (b ∷ n ∷ b ∷ u ∷ s ∷ end_object ∷ []) (end_object ∷ []) _ _ t5) c.end_object-2.ensures.ok
