use Rattle.std.proofs.Common.{add-one}
use Rattle.tw_generate.proofs.changes.made.Goals as goal

pub loop-i-preserved : goal.loop-i-preserved
loop-i-preserved c = rw add-one (cc (c.in_ok-push.ensures.items, c.loop-i.invariant, c.in_ok-task_of.ensures, c.uuid_of.ensures))
