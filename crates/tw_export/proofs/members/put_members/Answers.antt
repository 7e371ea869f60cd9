use Rattle.std.proofs.Common.{◌≡◌, ◌+◌, ◌++◌, drop, sym, ap, ◌∙◌, arith}
use Rattle.std.proofs.lemmas.List.{append_assoc}
use Rattle.std.specs.FinMap.{entries}
use Rattle.tw_model.proofs.Sorted.{on_ok, entries_end}
use Rattle.tw_export.specs.Export.{own_tokens, own_below, own_from, property_tokens, in_order}
use Rattle.tw_export.specs.Owns.{owns_in}
use Rattle.tw_export.specs.declared.members.Subject.{Subject}
use Rattle.tw_export.proofs.PropertyLoops.{entry_here}
use Rattle.tw_export.proofs.members.put_members.Goals as goal

pub loop-n-preserved : goal.loop-n-preserved
loop-n-preserved c =
    let s : Subject = c.args.subject.now in
    let m = c.args.subject.now.task.now in
    let k = c.key.result.now in
    let v = c.value.result.now in
    let owns = owns_in s c.loop-n.next in
    let rest = drop (c.loop-n.n + 1) (entries m) in
    let t0 = c.loop-n.writer.tokens in
    let below = own_tokens (own_below k owns) in
    let here = property_tokens m c.args.second (k, v) in
    let later = in_order m c.args.second (own_from k owns) rest in
    let is : c.put_property.new.writer.tokens ≡ (t0 ++ below) ++ here =
    c.in_ok-put_property.ensures.written ∙ (λ i. c.in_ok-put_own_below.ensures.written i ++ property_tokens m c.args.second (same i, v)) in record {
      few = c.put_own_below.ensures.few;
      written =
          (λ i. is i ++ in_order m c.args.second (c.in_ok-put_own_below.ensures.left i) rest)
          ∙ append_assoc (t0 ++ below) here later ∙ append_assoc t0 below (here ++ later)
          ∙ ap (λ es. t0 ++ in_order m c.args.second owns es) (sym (entry_here m c.loop-n.n k v (omega (arith, c.loop-n-test.true, c.len-n-end.ensures)) c.key.ensures c.value.ensures))
          ∙ c.loop-n.invariant.written;
      before = c.put_property.ensures.before ∙ c.put_own_below.ensures.before ∙ c.loop-n.invariant.before;
    }
  where
    same : c.key-in-loop-n.result.now ≡ c.key.result.now
    same = c.key-in-loop-n.ensures ∙ sym c.key.ensures

pub returns-clause-written : goal.returns-clause-written
returns-clause-written c =
    let s : Subject = c.args.subject.now in
    on_ok c.put_rest.result (λ e. e
    ∙ ap (λ es. c.loop-n.writer.tokens ++ in_order c.args.subject.now.task.now c.args.second (owns_in s c.loop-n.next) es) (sym (entries_end c.args.subject.now.task.now c.loop-n.n (omega (arith, c.loop-n-test.false, c.len-n-end.ensures))))
    ∙ c.loop-n.invariant.written) c.put_rest.ensures.written
