use Rattle.std.proofs.Common.{◌≡◌, ◌∙◌, ◌+◌, ◌++◌, ◌∷◌, [], List, false, length, drop, sym, ap, arith, length-append}
use Rattle.std.proofs.lemmas.Result.{err_from_is_err_and}
use Rattle.tw_model.specs.declared.Op.{Op}
use Rattle.tw_bodies.specs.Body.{is_undo_point, has_no_point}
use Rattle.tw_bodies.specs.Reading.{op_at}
use Rattle.tw_fields.specs.Reading.{many_at}
use Rattle.tw_state.specs.State.{begins_with_point}
use Rattle.tw_bodies.proofs.ReadSome.{front_none, one_on, one_fails}
use Rattle.tw_state.proofs.RestoredCommands.{point_told, begins_same, others_more}
use Rattle.tw_state.proofs.restore.read_command.Goals as goal

pub returns-in_err-first-clause-refused : goal.returns-in_err-first-clause-refused
returns-in_err-first-clause-refused c =
    let p = err_from_is_err_and c.from_residual.result c.from_residual.ensures.1 in
    let total = many_at op_at c.args.count c.args.bytes.now in
    rw (p.1, p.2) (one_fails op_at c.in_err-first.field-0.0 [] c.args.count c.args.bytes.now total c.requires c.in_err-first.ensures (front_none total))

pub loop-left-init : goal.loop-left-init
loop-left-init c =
    let first = c.in_ok-first.first in
    let start : c.push.new.self.items ≡ first ∷ [] = c.in_ok-push.ensures.items ∙ ap (λ (l : List Op). l ++ first ∷ []) c.in_ok-ops.ensures.items in
    let total = many_at op_at c.args.count c.args.bytes.now in
    record {
      read = rw start (one_on op_at [] c.args.count c.args.bytes.now first c.in_ok-first.after.now total c.requires c.in_ok-first.ensures (front_none total));
      first = ap begins_with_point start ∙ point_told c.args.bytes.now (first, c.in_ok-first.after.now) c.in_ok-first.ensures;
      others = ap (λ (l : List Op). has_no_point (drop 1 l)) start;
      sum = omega (arith, ap length start, c.requires);
      some = omega (arith, ap length start);
    }

pub returns-in_err-op-clause-refused : goal.returns-in_err-op-clause-refused
returns-in_err-op-clause-refused c =
    let p = err_from_is_err_and c.from_residual-in_err-op.result c.from_residual-in_err-op.ensures.1 in
    rw (p.1, p.2) (one_fails op_at c.in_err-op.field-0.0 c.loop-left.ops.items c.loop-left.left c.loop-left.rest.now (many_at op_at c.args.count c.args.bytes.now) c.loop-left-test.true c.in_err-op.ensures c.loop-left.invariant.read)

pub loop-left-preserved : goal.loop-left-preserved
loop-left-preserved c =
    let so_far = c.loop-left.invariant in
    let ops = c.loop-left.ops.items in
    let op = c.in_ok-op.op in
    let more : c.push-in-loop-left.new.self.items ≡ ops ++ op ∷ [] = c.in_ok-push-2.ensures.items in
    let size : length c.push-in-loop-left.new.self.items ≡ length ops + 1 = ap length more ∙ length-append ops (op ∷ []) in
    let not_one : is_undo_point op ≡ false = point_told c.loop-left.rest.now (op, c.in_ok-op.after.now) c.in_ok-op.ensures ∙ sym c.begins_a_command.ensures ∙ c.if-not-begins_a_command.true in
    record {
      read = rw more (one_on op_at ops c.loop-left.left c.loop-left.rest.now op c.in_ok-op.after.now (many_at op_at c.args.count c.args.bytes.now) c.loop-left-test.true c.in_ok-op.ensures so_far.read);
      first = ap begins_with_point more ∙ begins_same ops op so_far.some ∙ so_far.first;
      others = ap (λ (l : List Op). has_no_point (drop 1 l)) more ∙ others_more ops op so_far.some so_far.others not_one;
      sum = omega (arith, size, so_far.sum, c.loop-left-test.true);
      some = omega (arith, size);
    }
