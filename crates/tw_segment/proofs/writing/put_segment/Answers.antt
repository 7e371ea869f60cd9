use Rattle.std.proofs.Common.{◌∷◌, [], codes}
use Rattle.json.specs.Token.{begin_object, begin_array, end_object, key}
use Rattle.tw_model.proofs.Sorted.{on_ok}
use Rattle.tw_segment.specs.Tokens.{ops_tokens}
use Rattle.tw_segment.proofs.OpsBack.{then}
use Rattle.tw_segment.proofs.writing.put_segment.Goals as goal

pub returns-clause-written : goal.returns-clause-written
returns-clause-written c =
    let old = c.args.writer.now.tokens in
    let k = key (codes "operations") in
    let t1 = c.in_ok-begin_object.ensures.ok in
    let t2 = then old (begin_object ∷ []) (k ∷ []) _ _ t1 c.in_ok-key.ensures.ok in
    let t3 = then old (begin_object ∷ k ∷ []) (begin_array ∷ []) _ _ t2 c.in_ok-begin_array.ensures.ok in
    let t4 = then old (begin_object ∷ k ∷ begin_array ∷ []) (ops_tokens c.args.ops.now.items) _ _ t3 c.in_ok-put_ops.ensures.written in
    on_ok c.end_object.result (then old (begin_object ∷ k ∷ begin_array ∷ ops_tokens c.args.ops.now.items) (end_object ∷ []) _ _ t4) c.end_object.ensures.ok
