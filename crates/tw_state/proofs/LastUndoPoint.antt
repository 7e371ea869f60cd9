-- The last undo point, and what is taken back.
use Rattle.std.proofs.Common.{◌≡◌, ℕ, ◌+◌, ◌-◌, ◌<◌, ◌≤◌, true, false, cond, List, [], ◌∷◌, ◌++◌, length, get_or, take, drop, Some, None, refl, sym, ap, ◌∙◌, arith}
use Rattle.tw_model.specs.Ops.{TasksValue}
use Rattle.tw_model.specs.LocalOps.{take_back, take_back_all}
use Rattle.tw_model.specs.declared.Op.{Op}
use Rattle.std.proofs.lemmas.List.{take_more, length-drop, get_or-drop}
use Rattle.tw_bodies.specs.Body.{is_undo_point, has_no_point}
use Rattle.tw_state.specs.State.{in_front, split_group}

pub no_point : (ops : List Op) → has_no_point ops ≡ true → split_group ops ≡ None
no_point [] h = refl
no_point (op ∷ ops) h =
    elim (is_undo_point op) as (λ b. is_undo_point op ≡ b → cond b false (has_no_point ops) ≡ true → split_group (op ∷ ops) ≡ None) [
      | true ↦ λ e g. absurd cc
      | false ↦ λ e g. ap (in_front op ops) (no_point ops g) ∙ ap (λ b. cond b (Some ([], ops)) None) e
    ] refl h

take_back_push : (tasks : TasksValue) (xs : List Op) (x : Op) → take_back_all tasks (xs ++ x ∷ []) ≡ take_back_all (take_back tasks x) xs
take_back_push tasks [] x = refl
take_back_push tasks (y ∷ xs) x = ap (λ t. take_back t y) (take_back_push tasks xs x)

-- one more is taken back, from the end
pub taken_back_more : (start tasks new : TasksValue) (ops : List Op) (from at : ℕ) (op : Op) (whole : TasksValue) → from < at → at ≤ length ops → op ≡ get_or ops (at - 1) op → new ≡ take_back tasks op
    → take_back_all tasks (take (at - from) (drop from ops)) ≡ whole → take_back_all new (take (at - 1 - from) (drop from ops)) ≡ whole
taken_back_more start tasks new ops from at op whole lt le read e so_far =
    let rest = drop from ops in
    let k = at - 1 - from in
    let size : length rest ≡ length ops - from = length-drop from ops in
    let here : get_or rest k op ≡ op = get_or-drop from ops k op ∙ ap (λ i. get_or ops i op) {x = from + k} {y = at - 1} (omega arith) ∙ sym read in
    let longer : take (at - from) rest ≡ take k rest ++ op ∷ [] = ap (λ i. take i rest) {x = at - from} {y = k + 1} (omega arith) ∙ take_more rest k op (omega arith) ∙ ap (λ (x : Op). take k rest ++ x ∷ []) here in
    ap (λ t. take_back_all t (take k rest)) e ∙ sym (take_back_push tasks (take k rest) op) ∙ ap (take_back_all tasks) (sym longer) ∙ so_far
