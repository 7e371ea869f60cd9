use Rattle.std.proofs.Common.{arith}
use Rattle.tw_urgency.specs.Stored.{is_annotation}
use Rattle.tw_urgency.proofs.KeyLoops.{passes, goes_on, ends}
use Rattle.tw_terms.proofs.task_test.is_annotated.Goals as goal

pub returns-then-is_annotation : goal.returns-then-is_annotation
returns-then-is_annotation c = passes is_annotation c.args.task.now c.loop-n.n c.key.result.now (omega arith) c.key.ensures (cc) c.loop-n.invariant

pub loop-n-preserved : goal.loop-n-preserved
loop-n-preserved c = goes_on is_annotation c.args.task.now c.loop-n.n c.key.result.now (omega arith) c.key.ensures (cc) c.loop-n.invariant

pub returns : goal.returns
returns c = ends is_annotation c.args.task.now c.loop-n.n (omega arith) c.loop-n.invariant
