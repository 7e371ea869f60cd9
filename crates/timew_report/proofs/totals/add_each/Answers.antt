use Rattle.std.proofs.Common.{arith}
use Rattle.timew_report.proofs.Tags.{each_more, read_back}
use Rattle.timew_report.proofs.totals.add_each.Goals as goal

pub loop-n-preserved : goal.loop-n-preserved
loop-n-preserved c =
    each_more c.args.tags.now c.loop-n.n c.args.seconds c.at.result.now c.args.times.now c.loop-n.times c.add.new.self c.requires (omega (arith, c.loop-n-test.true, c.len-n-end.ensures))
    (read_back c.args.tags.now c.loop-n.n c.at.result.now (omega (arith, c.loop-n-test.true, c.len-n-end.ensures)) c.at.ensures) c.in_ok-add.ensures c.loop-n.invariant
