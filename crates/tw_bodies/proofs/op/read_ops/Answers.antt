use Rattle.std.proofs.lemmas.Result.{err_from_is_err_and}
use Rattle.tw_bodies.specs.Reading.{op_at}
use Rattle.tw_fields.specs.Reading.{many_at}
use Rattle.tw_fields.proofs.ReadLoop.{goes_on, ends, is_done}
use Rattle.tw_bodies.proofs.op.read_ops.Goals as goal

pub returns-in_err-op : goal.returns-in_err-op
returns-in_err-op c =
    let p = err_from_is_err_and c.from_residual-in_err-op.result c.from_residual-in_err-op.ensures.1 in
    rw (p.1, p.2) (ends op_at c.in_err-op.field-0.0 c.loop.ops.items c.args.count c.loop.counter c.loop.rest.now (many_at op_at c.args.count c.args.bytes.now) c.loop-test.true c.in_err-op.ensures c.loop.invariant)

pub loop-preserved : goal.loop-preserved
loop-preserved c = rw c.in_ok-push.ensures.items (goes_on op_at c.loop.ops.items c.args.count c.loop.counter c.loop.rest.now c.in_ok-op.op c.in_ok-op.after.now (many_at op_at c.args.count c.args.bytes.now) c.loop-test.true c.in_ok-op.ensures c.loop.invariant)

pub returns : goal.returns
returns c = is_done op_at c.loop.ops.items c.args.count c.loop.counter c.loop.rest.now (many_at op_at c.args.count c.args.bytes.now) c.loop-test.false c.loop.invariant
