use Rattle.std.proofs.Common.{◌≡◌, ◌∙◌, ◌++◌, ◌∷◌, [], codes, ap}
use Rattle.json.specs.Token.{key, string}
use Rattle.tw_model.proofs.Sorted.{on_ok}
use Rattle.tw_segment.specs.Timestamp.{timestamp}
use Rattle.tw_segment.proofs.OpsBack.{then}
use Rattle.tw_segment.proofs.writing.put_timestamp.Goals as goal

pub returns-clause-written : goal.returns-clause-written
returns-clause-written c =
    let old = c.args.writer.now.tokens in
    let k = key (codes "timestamp") in
    let is : c.deref.result.now ≡ timestamp c.args.at.now = c.deref.ensures ∙ c.in_ok-at.ensures.text in
    on_ok c.string.result (λ e. then old (k ∷ []) (string c.deref.result.now ∷ []) _ _ c.in_ok-key.ensures.ok e ∙ ap (λ s. old ++ k ∷ string s ∷ []) is) c.string.ensures.ok
