use Rattle.std.proofs.Common.{◌≡◌, ◌∙◌, ◌+◌, ◌++◌, ◌∷◌, [], length, set, sym, ap, subst, arith}
use Rattle.std.proofs.lemmas.List.{length-set}
use Rattle.std.proofs.lemmas.Grind.{get_or_default_zero}
use Rattle.tw_server.specs.Index.{AreBuckets, bucket_of}
use Rattle.tw_server.proofs.Buckets.{key_more}
use Rattle.tw_server.proofs.index.Index.push.Goals as goal

pub returns-clause-index : goal.returns-clause-index
returns-clause-index c = λ keys is.
    let ends = c.args.self.now.ends.items in
    let bucket = c.bucket_of-bucket.result in
    let number = c.len-number.result + 1 in
    let size : c.len.result ≡ length ends = omega arith in
    let inside = c.bucket_of-bucket.ensures.inside in
    let at = c.bucket_of-bucket.ensures.is ∙ ap (λ n. bucket_of n c.args.key) size in
    let before = c.push_reserved.ensures.items ∙ ap (λ x. c.args.self.now.before.items ++ x ∷ []) (c.index.ensures ∙ get_or_default_zero ends bucket c.index.result.now (omega (arith, inside, size))) in
    subst (λ s. AreBuckets s (set ends bucket number) c.push_reserved.new.self.items (keys ++ c.args.key ∷ [])) (sym (length-set ends bucket number))
    (subst (λ b. AreBuckets (length ends) (set ends bucket number) b (keys ++ c.args.key ∷ [])) (sym before)
    (key_more (length ends) ends c.args.self.now.before.items keys c.args.key is bucket number at (omega (arith, inside, size)) (omega arith)))
