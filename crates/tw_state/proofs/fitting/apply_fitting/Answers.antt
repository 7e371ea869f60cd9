use Rattle.std.proofs.Common.{◌∙◌, ◌++◌, cond, Some, None, sym, ap, arith}
use Rattle.tw_bodies.specs.Reading.{sync_op_at}
use Rattle.tw_fields.specs.Reading.{many_at, with_front}
use Rattle.tw_state.proofs.ReadInChunks.{all_read, touched_on, applied_on}
use Rattle.tw_state.proofs.RestoredCommands.{front_more}
use Rattle.tw_state.proofs.RunsThatFit.{fits_more, unfit}
use Rattle.tw_state.proofs.fitting.apply_fitting.Goals as goal

pub returns-then-not-branch : goal.returns-then-not-branch
returns-then-not-branch c =
    let so_far = c.loop-left.invariant in
    unfit c.args.tasks.now c.loop-left.tasks so_far.ops c.in-Ok.ops.items c.loop-left.left c.in-Ok.more c.args.count c.loop-left.rest.now c.in-Ok.after.now c.args.bytes.now so_far.read so_far.fits so_far.tasks c.in-Ok.ensures.read.read
    (λ n. c.in_ok-take_run-in-Ok.ensures.fit n ∙ ap (λ b. cond b None (Some n)) c.if-not-branch.true)

pub loop-left-preserved : goal.loop-left-preserved
loop-left-preserved c =
    let so_far = c.loop-left.invariant in
    let run = c.in-Ok.ops.items in
    record {
      ops = so_far.ops ++ run;
      read = sym (front_more so_far.ops run (many_at sync_op_at c.in-Ok.more c.in-Ok.after.now)) ∙ ap (with_front so_far.ops) c.in-Ok.ensures.read.read ∙ so_far.read;
      fits = fits_more c.args.tasks.now c.loop-left.tasks so_far.ops run so_far.fits so_far.tasks (λ n. c.in_ok-take_run-in-Ok.ensures.fit n ∙ ap (λ b. cond b None (Some n)) c.if-not-branch.false);
      tasks = applied_on c.args.tasks.now c.loop-left.tasks c.take_run.new.tasks so_far.ops run so_far.tasks (c.in_ok-take_run-in-Ok.ensures.tasks c.if-not-branch.false);
      touched = λ u. touched_on so_far.ops run u _ _ _ (so_far.touched u) (c.in_ok-take_run-in-Ok.ensures.touched u);
    }

pub returns : goal.returns
returns c =
    let so_far = c.loop-left.invariant in
    record {
      ops = so_far.ops;
      read = all_read sync_op_at so_far.ops c.loop-left.left c.loop-left.rest.now (many_at sync_op_at c.args.count c.args.bytes.now) (omega (arith, c.loop-left-test.false)) so_far.read;
      fits = so_far.fits;
      tasks = so_far.tasks;
      touched = so_far.touched;
    }
