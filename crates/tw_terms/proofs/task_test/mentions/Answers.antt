use Rattle.std.proofs.Common.{arith, sym, ◌∙◌}
use Rattle.tw_terms.specs.Holds.{mentions}
use Rattle.tw_terms.proofs.EntryLoops.{passes, goes_on, ends}
use Rattle.tw_terms.proofs.task_test.mentions.Goals as goal

pub returns-then-is_mention : goal.returns-then-is_mention
returns-then-is_mention c =
    passes (mentions c.args.value.now) c.args.task.now c.loop-n.n c.key.result.now c.value.result.now (omega arith) c.key.ensures c.value.ensures
    (sym c.is_mention.ensures ∙ c.if-is_mention.true) c.loop-n.invariant

pub loop-n-preserved : goal.loop-n-preserved
loop-n-preserved c =
    goes_on (mentions c.args.value.now) c.args.task.now c.loop-n.n c.key.result.now c.value.result.now (omega arith) c.key.ensures c.value.ensures
    (sym c.is_mention.ensures ∙ c.if-is_mention.false) c.loop-n.invariant

pub returns : goal.returns
returns c = ends (mentions c.args.value.now) c.args.task.now c.loop-n.n (omega arith) c.loop-n.invariant
