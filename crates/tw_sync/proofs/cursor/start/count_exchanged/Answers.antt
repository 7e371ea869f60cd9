use Rattle.std.proofs.Common.{◌<◌, length, arith, ap}
use Rattle.std.proofs.lemmas.List.{drop_all}
use Rattle.tw_model.specs.LocalOps.{plain}
use Rattle.tw_sync.proofs.PendingOps.{count_turn}
use Rattle.tw_sync.proofs.cursor.start.count_exchanged.Goals as goal

pub loop-at-preserved : goal.loop-at-preserved
loop-at-preserved c =
    let ops = c.args.ops.now.items in
    let inside : c.loop-at.at < length c.args.ops.now.items = omega (arith, c.loop-at-test.true) in
    let within = c.count_one-count.ensures.within in
    let few = c.loop-at.invariant.0 in
    (omega (arith, within, few), count_turn c.loop-at.count c.count_one-count.result (length (plain c.args.ops.now.items)) c.args.ops.now.items c.loop-at.at c.index.result.now inside c.index.ensures c.count_one-count.ensures.counted c.loop-at.invariant.1)

pub returns : goal.returns
returns c =
    let none = ap length (ap plain (drop_all c.loop-at.at c.args.ops.now.items (omega (arith, c.loop-at-test.false)))) in
    let all = c.loop-at.invariant.1 in
    omega (arith, none, all)
