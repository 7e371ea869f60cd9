use Rattle.std.proofs.Common.{◌≡◌, ◌∙◌, ◌++◌, [], ap}
use Rattle.tw_segment.specs.Segment.{segment_data}
use Rattle.tw_segment.specs.Tokens.{data_tokens}
use Rattle.tw_segment.proofs.OpsBack.{text_is, text_back}
use Rattle.tw_segment.proofs.writing.text_of.Goals as goal

pub returns-clause-text : goal.returns-clause-text
returns-clause-text c =
    let ops = c.args.ops.now.items in
    let before : c.put_segment.new.writer.before ≡ [] = c.put_segment.ensures.before ∙ c.new-writer.ensures.before ∙ c.new.ensures.items in
    let tokens : c.put_segment.new.writer.tokens ≡ data_tokens (segment_data ops) = c.in_ok-put_segment.ensures.written ∙ ap (λ ts. ts ++ data_tokens (segment_data ops)) c.new-writer.ensures.tokens in
    text_is ops c.into_inner.result.items c.put_segment.new.writer.before c.put_segment.new.writer.tokens c.into_inner.ensures.items before tokens

pub returns-clause-reads_back : goal.returns-clause-reads_back
returns-clause-reads_back c =
    let ops = c.args.ops.now.items in
    let before : c.put_segment.new.writer.before ≡ [] = c.put_segment.ensures.before ∙ c.new-writer.ensures.before ∙ c.new.ensures.items in
    let tokens : c.put_segment.new.writer.tokens ≡ data_tokens (segment_data ops) = c.in_ok-put_segment.ensures.written ∙ ap (λ ts. ts ++ data_tokens (segment_data ops)) c.new-writer.ensures.tokens in
    text_back ops c.into_inner.result.items c.put_segment.new.writer.before c.put_segment.new.writer.tokens c.into_inner.ensures.items before tokens
    c.into_inner.ensures.utf8 c.into_inner.ensures.reads_back c.in_ok-put_segment.ensures.back
