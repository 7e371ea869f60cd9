use Rattle.std.proofs.Common.{◌∙◌, List, length, nat_eq, refl, sym, ap, subst, arith}
use Rattle.tw_model.specs.LocalOps.{apply_all_local, FitAllLocal}
use Rattle.tw_model.specs.declared.Op.{Op}
use Rattle.tw_bodies.specs.Reading.{op_at}
use Rattle.tw_fields.specs.Reading.{many_at, with_front}
use Rattle.tw_state.specs.State.{begins_with_point}
use Rattle.tw_state.specs.Restoring.{begins_a_command}
use Rattle.tw_state.proofs.RestoredCommands.{begun, begins_more, command_is_group, not_begun, misfits, read_more, fit_more, made_more, ended}
use Rattle.tw_state.proofs.restore.take_pending.Goals as goal

pub returns-then-not-begins_a_command : goal.returns-then-not-begins_a_command
returns-then-not-begins_a_command c =
    not_begun c.args.count c.args.bytes.now c.args.tasks.now c.args.tasks.now c.args.pending.now c.if-count-gt0.true (sym c.begins_a_command.ensures ∙ c.if-not-begins_a_command.true)

pub take_command-requires : goal.take_command-requires
take_command-requires c =
    let command = c.in-Ok.ensures.read in
    command_is_group c.in-Ok.ops.items command.some (command.first ∙ begun c.loop-left.left (begins_a_command c.loop-left.rest.now) c.loop-left-test.true c.loop-left.invariant.next) command.others

pub returns-then-not-branch : goal.returns-then-not-branch
returns-then-not-branch c =
    let so_far = c.loop-left.invariant in
    misfits c.args.count c.args.bytes.now c.args.tasks.now c.loop-left.tasks c.loop-left.pending c.loop-left.left c.loop-left.rest.now so_far.read so_far.fit so_far.tasks
    c.in-Ok.ops.items c.in-Ok.more c.in-Ok.after.now c.in-Ok.ensures.read c.take_command.new.tasks c.take_command.new.pending (sym c.in_ok-take_command-in-Ok.ensures.fit ∙ c.if-not-branch.true)

pub loop-left-preserved : goal.loop-left-preserved
loop-left-preserved c =
    let so_far = c.loop-left.invariant in
    let command = c.in-Ok.ensures.read in
    let ops = c.in-Ok.ops.items in
    let done = c.if-not-branch.false in
    let fits = sym c.in_ok-take_command-in-Ok.ensures.fit ∙ done in
    let grown = c.in_ok-take_command-in-Ok.ensures.pending done in
    record {
      read = ap (λ (l : List Op). with_front l (many_at op_at c.in-Ok.more c.in-Ok.after.now)) grown
          ∙ read_more c.args.count c.args.bytes.now c.args.tasks.now c.loop-left.tasks c.loop-left.pending c.loop-left.left c.loop-left.rest.now so_far.read so_far.fit so_far.tasks ops c.in-Ok.more c.in-Ok.after.now command;
      fit = subst (FitAllLocal c.args.tasks.now) (sym grown)
          (fit_more c.args.count c.args.bytes.now c.args.tasks.now c.loop-left.tasks c.loop-left.pending c.loop-left.left c.loop-left.rest.now so_far.read so_far.fit so_far.tasks ops c.in-Ok.more c.in-Ok.after.now command fits);
      tasks = made_more c.args.count c.args.bytes.now c.args.tasks.now c.loop-left.tasks c.loop-left.pending c.loop-left.left c.loop-left.rest.now so_far.read so_far.fit so_far.tasks ops c.in-Ok.more c.in-Ok.after.now command fits
          c.take_command.new.tasks (c.in_ok-take_command-in-Ok.ensures.tasks done) ∙ ap (apply_all_local c.args.tasks.now) (sym grown);
      begins = ap begins_with_point grown ∙ begins_more c.loop-left.pending ops so_far.begins (command.first ∙ begun c.loop-left.left (begins_a_command c.loop-left.rest.now) c.loop-left-test.true so_far.next);
      next = command.next;
    }

pub returns : goal.returns
returns c =
    let so_far = c.loop-left.invariant in
    ended c.args.count c.args.bytes.now c.args.tasks.now c.loop-left.tasks c.loop-left.pending c.loop-left.left c.loop-left.rest.now so_far.read so_far.fit so_far.tasks
    (nat_eq (length c.loop-left.rest.now) 0) refl (omega (arith, c.loop-left-test.false)) so_far.begins
