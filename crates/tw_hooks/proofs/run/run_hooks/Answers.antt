use Rattle.tw_hooks.specs.Names.{told_hooks}
use Rattle.tw_hooks.proofs.Leading.{refused_before}
use Rattle.tw_hooks.proofs.run.run_hooks.Goals as goal

pub returns-in-Err-clause-refused : goal.returns-in-Err-clause-refused
returns-in-Err-clause-refused g c =
    let m = g.P.Spawner.model in
    let old = c.args.spawner.now in
    refused_before c.args.event c.args.uuid c.args.now.seconds c.args.before.now m old c.hooks_now.new.spawner (told_hooks c.args.event m old) c.args.after.now c.in-Err.error c.hooks_now.ensures.runs c.in-Err.ensures.refused
