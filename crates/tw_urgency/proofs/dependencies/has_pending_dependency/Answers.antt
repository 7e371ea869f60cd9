use Rattle.std.proofs.Common.{arith}
use Rattle.tw_urgency.specs.Dependencies.{dependency_in, is_pending_one}
use Rattle.tw_urgency.proofs.KeyLoops.{passes, goes_on, ends}
use Rattle.tw_urgency.proofs.dependencies.has_pending_dependency.Goals as goal

pub returns-then-is_pending_one : goal.returns-then-is_pending_one
returns-then-is_pending_one c = passes (λ name. is_pending_one c.args.tasks.now (dependency_in name)) c.args.task.now c.loop-n.n c.key.result.now (omega arith) c.key.ensures (cc) c.loop-n.invariant

pub loop-n-preserved : goal.loop-n-preserved
loop-n-preserved c = goes_on (λ name. is_pending_one c.args.tasks.now (dependency_in name)) c.args.task.now c.loop-n.n c.key.result.now (omega arith) c.key.ensures (cc) c.loop-n.invariant

pub returns : goal.returns
returns c = ends (λ name. is_pending_one c.args.tasks.now (dependency_in name)) c.args.task.now c.loop-n.n (omega arith) c.loop-n.invariant
