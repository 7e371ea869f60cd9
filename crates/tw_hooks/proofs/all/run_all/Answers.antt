use Rattle.tw_hooks.specs.Names.{hooks_of}
use Rattle.tw_hooks.proofs.Leading.{if_err}
use Rattle.tw_hooks.proofs.Reaching.{all_refused_since, all_refused_before}
use Rattle.tw_hooks.proofs.all.run_all.Goals as goal

pub returns-in-Ok-clause-refused : goal.returns-in-Ok-clause-refused
returns-in-Ok-clause-refused g c =
    let m = g.P.Spawner.model in
    if_err c.run_asks.result _ _
    (all_refused_since c.args.event c.args.now.seconds m c.args.spawner.now c.hooks_now.new.spawner c.run_asks.new.spawner c.in-Ok.hooks.keys (hooks_of c.args.event (m.names c.args.spawner.now)) c.args.asks.now
    c.hooks_now.ensures.kept c.hooks_now.ensures.runs c.in-Ok.ensures.hooks)
    c.run_asks.ensures.refused

pub returns-in-Err-clause-refused : goal.returns-in-Err-clause-refused
returns-in-Err-clause-refused g c =
    let m = g.P.Spawner.model in
    all_refused_before c.args.event c.args.now.seconds m c.args.spawner.now c.hooks_now.new.spawner (hooks_of c.args.event (m.names c.args.spawner.now)) c.args.asks.now c.is_empty.result c.if-is_empty.false c.is_empty.ensures
    c.in-Err.error c.hooks_now.ensures.runs c.in-Err.ensures.refused
