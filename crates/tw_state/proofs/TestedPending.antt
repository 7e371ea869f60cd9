-- Operations that are to be pending: the test, and how they are kept.
use Rattle.std.proofs.Common.{◌≡◌, ℕ, Bool, true, false, ◌&&◌, ◌≤◌, ◌<◌, ◌+◌, List, [], ◌∷◌, ◌++◌, length, get_or, take, drop, Option, Some, None, refl, sym, ap, ◌∙◌, arith}
use Rattle.std.specs.Prelude.{is_some, IfNone}
use Rattle.std.proofs.lemmas.List.{take_more, drop_more}
use Rattle.tw_model.specs.Ops.{TasksValue}
use Rattle.tw_model.specs.LocalOps.{apply_all_local}
use Rattle.tw_model.specs.declared.Op.{Op}
use Rattle.tw_numbers.proofs.Basics.{both_hold}
use Rattle.tw_bodies.specs.Body.{is_undo_point, has_no_point, is_group}
use Rattle.tw_state.specs.State.{misfit, begins_with_point, before_all, may_pend}
use Rattle.tw_state.proofs.StepsTaken.{if_none}
use Rattle.tw_state.proofs.CommittedChanges.{none_misfits}
use Rattle.tw_state.proofs.BeforePending.{found}
use Rattle.tw_state.proofs.RestoredCommands.{no_point_last, not_both}

pub pends_not : (tasks : TasksValue) (ops : List Op) → before_all tasks ops ≡ None → may_pend tasks ops ≡ false
pends_not tasks ops e = ap (λ (o : Option TasksValue). begins_with_point ops && is_some o) e ∙ by (begins_with_point ops)
  where
    by : (b : Bool) → b && false ≡ false
    by true = refl
    by false = refl

pub pends_so : (tasks there : TasksValue) (ops : List Op) → begins_with_point ops ≡ true → before_all tasks ops ≡ Some there → may_pend tasks ops ≡ true
pends_so tasks there ops begins e = ap (λ (o : Option TasksValue). begins_with_point ops && is_some o) e ∙ ap (λ b. b && true) begins

-- operations that were taken back lead to the tasks again
pub led_again : (old there new : TasksValue) (ops : List Op) (at : Option ℕ) → before_all old ops ≡ Some there → at ≡ misfit 0 there ops → IfNone at (new ≡ apply_all_local there ops) → new ≡ old
led_again old there new ops at e fit left =
    let is = found old there ops e in
    if_none at left (fit ∙ none_misfits 0 there ops is.0) ∙ sym is.1

-- ---- one operation after the other

pub begins_here : (ops rest : List Op) (op : Op) → begins_with_point (ops ++ op ∷ rest) ≡ begins_with_point (ops ++ op ∷ [])
begins_here [] rest op = refl
begins_here (x ∷ ops) rest op = refl

pub begins_still : (ops rest : List Op) → 1 ≤ length ops → begins_with_point ops ≡ true → begins_with_point (ops ++ rest) ≡ true
begins_still [] rest some e = absurd (omega arith)
begins_still (x ∷ ops) rest some e = e

-- those of the command so far and the next one, if all that are left come after them
pub next_begins : (command ops : List Op) (at : ℕ) (op : Op) → at < length ops → op ≡ get_or ops at op → begins_with_point (command ++ drop at ops) ≡ true → begins_with_point (command ++ op ∷ []) ≡ true
next_begins command ops at op lt read begins =
    sym (begins_here command (drop (at + 1) ops) op)
    ∙ ap (λ (x : Op). begins_with_point (command ++ x ∷ drop (at + 1) ops)) read
    ∙ sym (ap (λ (l : List Op). begins_with_point (command ++ l)) (drop_more ops at op lt)) ∙ begins

pub one_more_kept : (before ops : List Op) (at : ℕ) (op : Op) → at < length ops → op ≡ get_or ops at op → before ≡ take at ops → before ++ op ∷ [] ≡ take (at + 1) ops
one_more_kept before ops at op lt read so_far = ap (λ (l : List Op). l ++ op ∷ []) so_far ∙ ap (λ (x : Op). take at ops ++ x ∷ []) read ∙ sym (take_more ops at op lt)

pub group_more : (ops : List Op) (op : Op) → is_group ops ≡ true → begins_with_point (ops ++ op ∷ []) ≡ true → is_undo_point op ≡ false → is_group (ops ++ op ∷ []) ≡ true
group_more [] op group begins not_one = absurd (not_both (is_undo_point op) begins not_one)
group_more (x ∷ ops) op group begins not_one =
    let parts = both_hold (is_undo_point x) (has_no_point ops) group in
    ap (λ b. b && has_no_point (ops ++ op ∷ [])) parts.0 ∙ no_point_last ops op parts.1 not_one
