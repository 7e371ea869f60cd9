use Rattle.std.proofs.lemmas.Result.{err_from_is_err_and}
use Rattle.tw_bodies.specs.Reading.{place_at}
use Rattle.tw_fields.specs.Reading.{many_at}
use Rattle.tw_fields.proofs.ReadLoop.{goes_on, ends, is_done, last_read, last_fails}
use Rattle.tw_bodies.proofs.state.read_places.Goals as goal

pub returns-in_err-after : goal.returns-in_err-after
returns-in_err-after c =
    let p = err_from_is_err_and c.from_residual-in_err-after.result c.from_residual-in_err-after.ensures.1 in
    rw (p.1, p.2) (ends place_at c.in_err-after.field-0.0 c.loop.places.items c.args.count c.loop.counter c.loop.rest.now (many_at place_at c.args.count c.args.bytes.now) c.loop-test.true (last_fails place_at c.in_err-after.field-0.0 c.loop.places.items c.loop.rest.now c.in_err-after.ensures) c.loop.invariant)

pub loop-preserved : goal.loop-preserved
loop-preserved c =
    let r = last_read place_at c.loop.places.items c.loop.rest.now _ c.in_ok-after.ensures in
    rw r.2 (goes_on place_at c.loop.places.items c.args.count c.loop.counter c.loop.rest.now r.0 c.in_ok-after.after.now (many_at place_at c.args.count c.args.bytes.now) c.loop-test.true r.1 c.loop.invariant)

pub returns : goal.returns
returns c = is_done place_at c.loop.places.items c.args.count c.loop.counter c.loop.rest.now (many_at place_at c.args.count c.args.bytes.now) c.loop-test.false c.loop.invariant
