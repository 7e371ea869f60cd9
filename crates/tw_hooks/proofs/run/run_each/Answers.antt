use Rattle.std.proofs.Common.{sym, ap, ◌∷◌, ◌∙◌}
use Rattle.tw_hooks.proofs.Leading.{kept_on, led_more, none_begun, refused_at}
use Rattle.tw_hooks.proofs.run.run_each.Goals as goal

pub returns-in-Err-clause-refused : goal.returns-in-Err-clause-refused
returns-in-Err-clause-refused g c = none_begun c.args.event c.args.uuid c.args.now.seconds c.args.before.now g.P.Spawner.model c.args.hooks.now.keys c.args.after.now c.args.spawner.now

pub loop-name-preserved : goal.loop-name-preserved
loop-name-preserved g c =
    let m = g.P.Spawner.model in
    let so_far = c.loop-name.invariant in
    let rest = c.next.new.self in
    record {
      led = led_more c.args.event c.args.uuid c.args.now.seconds c.args.before.now m c.args.hooks.now.keys c.args.after.now c.args.spawner.now c.loop-name.spawner c.run_one.new.spawner c.loop-name.name-iterator c.as_str.result.now rest c.loop-name.so_far
          (c.in-Some.ensures.steps ∙ ap (λ n. n ∷ rest) (sym c.as_str.ensures)) so_far.kept so_far.led c.in-Ok-run_one.next c.in-Ok-run_one.ensures.answered;
      kept = kept_on m c.args.spawner.now c.loop-name.spawner c.run_one.new.spawner so_far.kept c.run_one.ensures.kept;
    }

pub returns-in-Err-run_one-clause-refused : goal.returns-in-Err-run_one-clause-refused
returns-in-Err-run_one-clause-refused g c =
    let m = g.P.Spawner.model in
    let so_far = c.loop-name.invariant in
    let rest = c.next.new.self in
    refused_at c.args.event c.args.uuid c.args.now.seconds c.args.before.now m c.args.hooks.now.keys c.args.after.now c.args.spawner.now c.loop-name.spawner c.run_one.new.spawner c.loop-name.name-iterator c.as_str.result.now rest c.loop-name.so_far
    (c.in-Some.ensures.steps ∙ ap (λ n. n ∷ rest) (sym c.as_str.ensures)) so_far.kept so_far.led c.in-Err-run_one.error c.in-Err-run_one.ensures.refused
