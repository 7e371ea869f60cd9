use Rattle.std.proofs.Common.{◌∙◌, ◌+◌, drop, arith}
use Rattle.std.proofs.lemmas.List.{take_all}
use Rattle.tw_state.proofs.TestedPending.{begins_still, next_begins, one_more_kept}
use Rattle.tw_state.proofs.pends.pending_of.Goals as goal

pub keep_next-requires-clause-begins : goal.keep_next-requires-clause-begins
keep_next-requires-clause-begins c = next_begins c.loop-at.command.items c.args.ops.now.items c.loop-at.at c.index.result.now (omega (arith, c.loop-at-test.true)) c.index.ensures c.loop-at.invariant.begins

pub loop-at-preserved : goal.loop-at-preserved
loop-at-preserved c =
    let ops = c.args.ops.now.items in
    let at = c.loop-at.at in
    let e = c.in_ok-keep_next.ensures in
    record {
      all = e.all ∙ one_more_kept _ ops at c.index.result.now (omega (arith, c.loop-at-test.true)) c.index.ensures c.loop-at.invariant.all;
      inside = omega (arith, c.loop-at-test.true);
      group = e.group;
      begins = begins_still c.keep_next.new.command.items (drop (at + 1) ops) e.some e.begins;
    }

pub returns : goal.returns
returns c = c.in_ok-keep_command.ensures ∙ c.loop-at.invariant.all ∙ take_all c.loop-at.at c.args.ops.now.items (omega (arith, c.loop-at-test.false))
