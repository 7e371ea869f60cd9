use Rattle.std.proofs.Common.{◌+◌, subst, sym, drop}
use Rattle.tw_hooks.proofs.Leading.{kept_on, kept_same}
use Rattle.tw_hooks.proofs.Reaching.{Done, done_none, done_more, one_pushed, refused_among, unlisted, next_ask}
use Rattle.tw_hooks.proofs.all.run_asks.Goals as goal

pub loop-ask-init : goal.loop-ask-init
loop-ask-init g c =
    let m = g.P.Spawner.model in
    let old = c.args.spawner.now in
    record {
      done = λ tells. done_none c.args.event c.args.now.seconds c.args.hooks.now.keys m c.args.asks.now old c.new-finals.result.items c.new-finals.ensures.items;
      kept = kept_same m old;
    }

pub returns-then-is_err-clause-refused : goal.returns-then-is_err-clause-refused
returns-then-is_err-clause-refused g c =
    let m = g.P.Spawner.model in
    let so_far = c.loop-ask.invariant in
    let asks = c.args.asks.now in
    let at = c.loop-ask.ask-index in
    let a = c.ask-item.result in
    unlisted c.args.event c.args.now.seconds c.args.hooks.now.keys m asks c.args.spawner.now c.loop-ask.spawner c.run_each.new.spawner (drop at asks) a (drop (at + 1) asks) c.loop-ask.finals.items
    (next_ask asks at a c.loop-ask-test.true c.ask-item.is) so_far.kept so_far.done c.in-Ok.last c.in-Ok.ensures.hooked

pub returns-in-Err-clause-refused : goal.returns-in-Err-clause-refused
returns-in-Err-clause-refused g c =
    let m = g.P.Spawner.model in
    let so_far = c.loop-ask.invariant in
    let asks = c.args.asks.now in
    let at = c.loop-ask.ask-index in
    let a = c.ask-item.result in
    refused_among c.args.event c.args.now.seconds c.args.hooks.now.keys m asks c.args.spawner.now c.loop-ask.spawner c.run_each.new.spawner (drop at asks) a (drop (at + 1) asks) c.loop-ask.finals.items
    (next_ask asks at a c.loop-ask-test.true c.ask-item.is) so_far.kept so_far.done c.in-Err.error c.in-Err.ensures.refused

pub loop-ask-preserved : goal.loop-ask-preserved
loop-ask-preserved g c =
    let m = g.P.Spawner.model in
    let so_far = c.loop-ask.invariant in
    let asks = c.args.asks.now in
    let at = c.loop-ask.ask-index in
    let a = c.ask-item.result in
    let rest = drop (at + 1) asks in
    let finals = c.loop-ask.finals.items in
    let pushed = one_pushed c.push.new.self.items finals c.in-Ok.last _ c.is_err.result c.push.ensures.items c.is_err.ensures.negation c.if-is_err.false in
    record {
      done = λ tells. subst (Done c.args.event c.args.now.seconds c.args.hooks.now.keys m asks c.args.spawner.now c.run_each.new.spawner rest) (sym pushed)
          (done_more c.args.event c.args.now.seconds c.args.hooks.now.keys m asks c.args.spawner.now c.loop-ask.spawner c.run_each.new.spawner (drop at asks) a rest finals
          (next_ask asks at a c.loop-ask-test.true c.ask-item.is) so_far.kept so_far.done c.in-Ok.last c.in-Ok.ensures.hooked tells);
      kept = kept_on m c.args.spawner.now c.loop-ask.spawner c.run_each.new.spawner so_far.kept c.run_each.ensures.kept;
    }
