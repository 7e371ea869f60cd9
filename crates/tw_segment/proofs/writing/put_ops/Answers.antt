use Rattle.std.proofs.Common.{subst, sym, ap, length, drop, [], ◌++◌, ◌<◌, ◌≡◌, ◌∙◌, get_or, arith}
use Rattle.std.proofs.lemmas.List.{drop_all}
use Rattle.tw_model.proofs.Sorted.{on_ok}
use Rattle.tw_segment.specs.Tokens.{ops_tokens}
use Rattle.tw_segment.proofs.OpsBack.{all_more, one_on}
use Rattle.tw_segment.proofs.writing.put_ops.Goals as goal

pub loop-op-preserved : goal.loop-op-preserved
loop-op-preserved c =
    let ops = c.args.ops.now.items in
    let at = c.loop-op.op-index in
    let op = c.op-item.result in
    let within : at < length ops = subst (λ xs. at < length xs) c.deref-op-items.ensures.value c.loop-op-test.true in
    let is : op ≡ get_or ops at op = subst (λ xs. op ≡ get_or xs at op) c.deref-op-items.ensures.value c.op-item.is in
    record {
      written = one_on ops at op c.loop-op.writer.tokens c.put_op.new.writer.tokens within is c.in_ok-put_op.ensures.written ∙ c.loop-op.invariant.written;
      before = c.put_op.ensures.before ∙ c.loop-op.invariant.before;
      back = all_more ops at op within is c.loop-op.invariant.back c.in_ok-put_op.ensures.back;
    }

pub returns-clause-written : goal.returns-clause-written
returns-clause-written c =
    let ops = c.args.ops.now.items in
    let at = c.loop-op.op-index in
    let over : drop at ops ≡ [] = drop_all at ops (omega (arith, c.loop-op-test.false, ap length c.deref-op-items.ensures.value)) in
    on_ok c.end_array.result (λ e. e ∙ ap (λ os. c.loop-op.writer.tokens ++ ops_tokens os) (sym over) ∙ c.loop-op.invariant.written) c.end_array.ensures.ok
