use Rattle.std.proofs.Common.{◌≡◌, ◌∙◌, ◌+◌, ◌++◌, ◌∷◌, [], List, length, sym, ap, subst, arith, length-append}
use Rattle.std.proofs.lemmas.Result.{err_from_is_err_and}
use Rattle.tw_model.specs.declared.SyncOp.{SyncOp}
use Rattle.tw_bodies.specs.Reading.{sync_op_at}
use Rattle.tw_bodies.specs.Runs.{IsRun}
use Rattle.tw_fields.specs.Reading.{many_at}
use Rattle.tw_bodies.proofs.ReadSome.{front_none, one_on, one_fails}
use Rattle.tw_bodies.proofs.RunsRead.{run_more}
use Rattle.tw_bodies.proofs.run.read_run.Goals as goal

pub returns-in_err-first-clause-refused : goal.returns-in_err-first-clause-refused
returns-in_err-first-clause-refused c =
    let p = err_from_is_err_and c.from_residual.result c.from_residual.ensures.1 in
    let total = many_at sync_op_at c.args.count c.args.bytes.now in
    rw (p.1, p.2) (one_fails sync_op_at c.in_err-first.field-0.0 [] c.args.count c.args.bytes.now total c.requires c.in_err-first.ensures (front_none total))

pub loop-left-init : goal.loop-left-init
loop-left-init c =
    let first = c.in_ok-first.first in
    let start : c.push.new.self.items ≡ first ∷ [] = c.in_ok-push.ensures.items ∙ ap (λ (l : List SyncOp). l ++ first ∷ []) c.in_ok-ops.ensures.items in
    let total = many_at sync_op_at c.args.count c.args.bytes.now in
    record {
      read = rw start (one_on sync_op_at [] c.args.count c.args.bytes.now first c.in_ok-first.after.now total c.requires c.in_ok-first.ensures (front_none total));
      run = subst IsRun (sym start) tt;
      sum = omega (arith, ap length start, c.requires);
    }

pub returns-in_err-op-clause-refused : goal.returns-in_err-op-clause-refused
returns-in_err-op-clause-refused c =
    let p = err_from_is_err_and c.from_residual-in_err-op.result c.from_residual-in_err-op.ensures.1 in
    rw (p.1, p.2) (one_fails sync_op_at c.in_err-op.field-0.0 c.loop-left.ops.items c.loop-left.left c.loop-left.rest.now (many_at sync_op_at c.args.count c.args.bytes.now) c.loop-left-test.true c.in_err-op.ensures c.loop-left.invariant.read)

pub loop-left-preserved : goal.loop-left-preserved
loop-left-preserved c =
    let so_far = c.loop-left.invariant in
    let ops = c.loop-left.ops.items in
    let op = c.in_ok-op.op in
    let more : c.push-in-loop-left.new.self.items ≡ ops ++ op ∷ [] = c.in_ok-push-2.ensures.items in
    let size : length c.push-in-loop-left.new.self.items ≡ length ops + 1 = ap length more ∙ length-append ops (op ∷ []) in
    record {
      read = rw more (one_on sync_op_at ops c.loop-left.left c.loop-left.rest.now op c.in_ok-op.after.now (many_at sync_op_at c.args.count c.args.bytes.now) c.loop-left-test.true c.in_ok-op.ensures so_far.read);
      run = subst IsRun (sym more) (run_more ops op c.index.result.now so_far.run c.index.ensures (c.goes_on.ensures c.if-goes_on.true (op, c.in_ok-op.after.now) c.in_ok-op.ensures));
      sum = omega (arith, size, so_far.sum, c.loop-left-test.true);
    }
