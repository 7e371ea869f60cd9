use Rattle.std.proofs.Common.{◌∷◌, [], ◌++◌, ◌∙◌, ap, codes}
use Rattle.json.specs.Token.{begin_object, end_object, key, string}
use Rattle.uuid.specs.Text.{hyphenated_text, lower}
use Rattle.tw_model.proofs.Sorted.{on_ok}
use Rattle.tw_segment.specs.Segment.{value_data}
use Rattle.tw_segment.specs.Timestamp.{timestamp}
use Rattle.tw_segment.specs.Tokens.{data_tokens}
use Rattle.tw_segment.proofs.OpsBack.{then, update_of}
use Rattle.tw_segment.proofs.writing.put_update.Goals as goal

pub returns-clause-written : goal.returns-clause-written
returns-clause-written c =
    let old = c.args.writer.now.tokens in
    let b = begin_object in
    let n = key (codes "Update") in
    let p = key (codes "property") in
    let q = string c.args.property.now in
    let t = key (codes "timestamp") in
    let s = string (timestamp c.args.at.now) in
    let u = key (codes "uuid") in
    let v = string (hyphenated_text lower c.args.uuid) in
    let w = key (codes "value") ∷ data_tokens (value_data c.args.value.now) in
    let t1 = c.in_ok-begin_object.ensures.ok in
    let t2 = then old (b ∷ []) (n ∷ []) _ _ t1 c.in_ok-key.ensures.ok in
    let t3 = then old (b ∷ n ∷ []) (b ∷ []) _ _ t2 c.in_ok-begin_object-2.ensures.ok in
    let t4 = then old (b ∷ n ∷ b ∷ []) (p ∷ []) _ _ t3 c.in_ok-key-2.ensures.ok in
    let t5 = then old (b ∷ n ∷ b ∷ p ∷ []) (string c.as_str.result.now ∷ []) _ _ t4 c.in_ok-string.ensures.ok ∙ ap (λ x. old ++ b ∷ n ∷ b ∷ p ∷ string x ∷ []) c.as_str.ensures in
    let t6 = then old (b ∷ n ∷ b ∷ p ∷ q ∷ []) (t ∷ s ∷ []) _ _ t5 c.in_ok-put_timestamp.ensures.written in
    let t7 = then old (b ∷ n ∷ b ∷ p ∷ q ∷ t ∷ s ∷ []) (u ∷ v ∷ []) _ _ t6 c.in_ok-put_uuid.ensures.written in
    let t8 = then old (b ∷ n ∷ b ∷ p ∷ q ∷ t ∷ s ∷ u ∷ v ∷ []) w _ _ t7 c.in_ok-put_value.ensures.written in
    let t9 = then old (b ∷ n ∷ b ∷ p ∷ q ∷ t ∷ s ∷ u ∷ v ∷ w) (end_object ∷ []) _ _ t8 c.in_ok-end_object.ensures.ok in
    on_ok c.end_object-2.result (then old (b ∷ n ∷ b ∷ p ∷ q ∷ t ∷ s ∷ u ∷ v ∷ (w ++ end_object ∷ [])) (end_object ∷ []) _ _ t9) c.end_object-2.ensures.ok

pub returns-clause-back : goal.returns-clause-back
returns-clause-back c =
    on_ok c.end_object-2.result (λ _. update_of c.args.property.now _ _ c.args.uuid c.args.value.now c.args.at.now c.put_uuid.ensures.back c.in_ok-put_timestamp.ensures.back) c.end_object-2.ensures.ok
