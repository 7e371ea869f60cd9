use Rattle.std.proofs.Common.{OnErr, ap, sym, subst}
use Rattle.tw_server.specs.Memory.Holding.{after_others, AfterSome}
use Rattle.tw_server.specs.Memory.Server.{holding_of}
use Rattle.tw_server.proofs.MemoryOthers.{no_step, step_here}
use Rattle.tw_server.proofs.memory.script.add_step.Goals as goal

pub returns-in-None-clause-added : goal.returns-in-None-clause-added
returns-in-None-clause-added c = sym (ap (after_others c.args.client (holding_of c.args.server.now)) (no_step c.deref.result.now c.args.script.now.items c.args.number c.deref.ensures.value c.in-None.ensures.lookup.3))

pub returns-in-Some-clause-part : goal.returns-in-Some-clause-part
returns-in-Some-clause-part c =
    subst (λ segments. OnErr c.add_others.result (AfterSome c.args.client (holding_of c.args.server.now) (holding_of c.add_others.new.server) segments))
    (sym (step_here c.deref.result.now c.args.script.now.items c.args.number c.in-Some.step.now c.deref.ensures.value c.in-Some.ensures.lookup.3.0 c.in-Some.ensures.lookup.1)) c.add_others.ensures.part
