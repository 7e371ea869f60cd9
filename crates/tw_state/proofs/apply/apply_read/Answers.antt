use Rattle.std.proofs.Common.{◌++◌, refl, arith, subst, nat_eq, length}
use Rattle.tw_bodies.specs.Reading.{sync_op_at}
use Rattle.tw_fields.specs.Reading.{Fails, many_at}
use Rattle.tw_state.proofs.ReadInChunks.{some_on, some_fail, all_read, no_sync, ended, touched_on, applied_on}
use Rattle.tw_state.proofs.apply.apply_read.Goals as goal

pub returns-in-Err-Malformed : goal.returns-in-Err-Malformed
returns-in-Err-Malformed c = λ base.
    no_sync base c.args.count c.args.bytes.now (some_fail sync_op_at c.loop-left.invariant.ops c.min-some.result c.loop-left.left c.loop-left.rest.now _ (omega (arith, c.min-some.ensures))
    (subst (λ e. Fails e (many_at sync_op_at c.min-some.result c.loop-left.rest.now)) c.in-Err-Malformed.field-0-is c.in-Err-Malformed.ensures) c.loop-left.invariant.read)

pub loop-left-preserved : goal.loop-left-preserved
loop-left-preserved c =
    let so_far = c.loop-left.invariant in
    record {
      ops = so_far.ops ++ c.in-Ok.ops.items;
      read = some_on sync_op_at so_far.ops c.in-Ok.ops.items c.min-some.result c.loop-left.left c.loop-left.rest.now c.in-Ok.after.now _ (omega (arith, c.min-some.ensures)) c.in-Ok.ensures so_far.read;
      tasks = applied_on c.args.tasks.now c.loop-left.tasks c.apply_these.new.tasks so_far.ops c.in-Ok.ops.items so_far.tasks c.in_ok-apply_these-in-Ok.ensures.tasks;
      touched = λ u. touched_on so_far.ops c.in-Ok.ops.items u _ _ _ (so_far.touched u) (c.in_ok-apply_these-in-Ok.ensures.touched u);
    }

pub returns : goal.returns
returns c =
    let so_far = c.loop-left.invariant in
    ended (nat_eq (length c.loop-left.rest.now) 0) c.args.count c.args.bytes.now c.loop-left.rest.now so_far.ops c.args.tasks.now c.loop-left.tasks c.args.touched.now.keys c.loop-left.touched.keys refl
    (all_read sync_op_at so_far.ops c.loop-left.left c.loop-left.rest.now _ (omega (arith, c.loop-left-test.false)) so_far.read) so_far.tasks so_far.touched
