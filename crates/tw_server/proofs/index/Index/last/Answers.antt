use Rattle.std.proofs.Common.{◌≡◌, ◌∙◌, length, get_or, sym, ap, arith}
use Rattle.std.proofs.lemmas.List.{get_or_past}
use Rattle.std.proofs.lemmas.Grind.{get_or_default_zero}
use Rattle.tw_server.specs.Index.{bucket_of}
use Rattle.tw_server.proofs.Buckets.{is_equal}
use Rattle.tw_server.proofs.index.Index.last.Goals as goal

pub returns-then-is_empty : goal.returns-then-is_empty
returns-then-is_empty c =
    let none = is_equal _ 0 (sym c.is_empty.ensures ∙ c.if-is_empty.true) in
    sym (get_or_past c.args.self.now.ends.items _ 0 (omega (arith, none)))

pub returns : goal.returns
returns c =
    let ends = c.args.self.now.ends.items in
    let size : c.len.result ≡ length ends = omega arith in
    let inside = c.bucket_of.ensures.inside in
    c.index.ensures ∙ get_or_default_zero ends c.bucket_of.result c.index.result.now (omega (arith, inside, size))
    ∙ ap (λ b. get_or ends b 0) (c.bucket_of.ensures.is ∙ ap (λ n. bucket_of n c.args.key) size)
