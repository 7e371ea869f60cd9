use Rattle.std.proofs.Common.{◌++◌, ◌∷◌, [], ◌∙◌, ◌&&◌, List, true, length, sym, ap, append_assoc, length-append, arith}
use Rattle.tw_model.specs.declared.Op.{Op}
use Rattle.tw_bodies.specs.Body.{is_group}
use Rattle.tw_state.specs.State.{begins_with_point}
use Rattle.tw_state.proofs.TestedPending.{group_more}
use Rattle.tw_state.proofs.pends.keep_next.Goals as goal

pub returns-then-not-is_undo_point-clause-group : goal.returns-then-not-is_undo_point-clause-group
returns-then-not-is_undo_point-clause-group c =
    let put = c.in_ok-push.ensures.items ∙ ap (λ (x : Op). c.args.command.now.items ++ x ∷ []) c.in_ok-next.ensures in
    ap is_group put ∙ group_more c.args.command.now.items c.args.op.now c.requires.group c.requires.begins (sym c.is_undo_point.ensures ∙ c.if-not-is_undo_point.true)

pub returns-then-not-is_undo_point-clause-all : goal.returns-then-not-is_undo_point-clause-all
returns-then-not-is_undo_point-clause-all c =
    let put = c.in_ok-push.ensures.items ∙ ap (λ (x : Op). c.args.command.now.items ++ x ∷ []) c.in_ok-next.ensures in
    ap (λ (l : List Op). c.args.pending.now ++ l) put ∙ sym (append_assoc c.args.pending.now c.args.command.now.items (c.args.op.now ∷ []))

pub returns-then-not-is_undo_point-clause-begins : goal.returns-then-not-is_undo_point-clause-begins
returns-then-not-is_undo_point-clause-begins c =
    let put = c.in_ok-push.ensures.items ∙ ap (λ (x : Op). c.args.command.now.items ++ x ∷ []) c.in_ok-next.ensures in
    ap begins_with_point put ∙ c.requires.begins

pub returns-then-not-is_undo_point-clause-some : goal.returns-then-not-is_undo_point-clause-some
returns-then-not-is_undo_point-clause-some c =
    let put = c.in_ok-push.ensures.items ∙ ap (λ (x : Op). c.args.command.now.items ++ x ∷ []) c.in_ok-next.ensures in
    omega (arith, ap length put ∙ length-append c.args.command.now.items (c.args.op.now ∷ []))

pub returns-clause-group : goal.returns-clause-group
returns-clause-group c =
    let begun = c.in_ok-push-2.ensures.items ∙ ap (λ (l : List Op). l ++ c.in_ok-next.next ∷ []) c.clear.ensures.items ∙ ap (λ (x : Op). x ∷ []) c.in_ok-next.ensures in
    ap is_group begun ∙ ap (λ b. b && true) (sym c.is_undo_point.ensures ∙ c.if-not-is_undo_point.false)

pub returns-clause-all : goal.returns-clause-all
returns-clause-all c =
    let begun = c.in_ok-push-2.ensures.items ∙ ap (λ (l : List Op). l ++ c.in_ok-next.next ∷ []) c.clear.ensures.items ∙ ap (λ (x : Op). x ∷ []) c.in_ok-next.ensures in
    ap (λ (l : List Op). c.keep_command.new.pending ++ l) begun ∙ ap (λ (l : List Op). l ++ c.args.op.now ∷ []) c.in_ok-keep_command.ensures

pub returns-clause-begins : goal.returns-clause-begins
returns-clause-begins c =
    let begun = c.in_ok-push-2.ensures.items ∙ ap (λ (l : List Op). l ++ c.in_ok-next.next ∷ []) c.clear.ensures.items ∙ ap (λ (x : Op). x ∷ []) c.in_ok-next.ensures in
    ap begins_with_point begun ∙ sym c.is_undo_point.ensures ∙ c.if-not-is_undo_point.false

pub returns-clause-some : goal.returns-clause-some
returns-clause-some c =
    let begun = c.in_ok-push-2.ensures.items ∙ ap (λ (l : List Op). l ++ c.in_ok-next.next ∷ []) c.clear.ensures.items in
    omega (arith, ap length begun)
