-- Taking the pending operations of a whole state, those of one command at a time.
use Rattle.std.proofs.Common.{◌≡◌, ⊎_elim, ℕ, zero, suc, ◌<◌, ◌≤◌, Bool, true, false, cond, ◌&&◌, List, [], ◌∷◌, ◌++◌, length, drop, Option, Some, None, refl, sym, ap, subst, ◌∙◌, append_assoc, arith}
use Rattle.std.specs.Prelude.{◌⊎◌, ◌==◌, is_none}
use Rattle.std.proofs.lemmas.List.{append-nil}
use Rattle.std.proofs.lemmas.Option.{same_Some}
use Rattle.tw_model.specs.Ops.{TasksValue}
use Rattle.tw_model.specs.LocalOps.{apply_all_local, FitAllLocal}
use Rattle.tw_model.specs.declared.Op.{Op}
use Rattle.tw_model.specs.declared.Op.TheVariants.{Create, Delete, Update, UndoPoint}
use Rattle.tw_bodies.specs.Body.{is_undo_point, has_no_point, is_group}
use Rattle.tw_bodies.specs.Reading.{task_at, create_at, delete_at, update_at, op_at}
use Rattle.tw_fields.specs.Reading.{text_at, option_at, moment_at, uuid_at, many_at, with_front}
use Rattle.tw_state.specs.State.{misfit, begins_with_point}
use Rattle.tw_state.specs.Restoring.{begins_a_command, ReadsCommand, TakesPending}
use Rattle.tw_fields.proofs.FieldsSpelled.{bind_some, none_left}
use Rattle.tw_state.proofs.CommittedChanges.{none_misfits}
use Rattle.tw_state.proofs.Soundness.{fits_from, none_is, applied-append, fit-append, fit_front, fit_behind}

-- ---- an operation of which only the first byte is known

created : (bytes : List ℕ) (r : Op × List ℕ) → create_at bytes ≡ Some r → is_undo_point r.0 ≡ false
unfolding create_at
created bytes r e =
    let u = bind_some (uuid_at bytes) _ r e in
    let made : Op × List ℕ = (Create u.0.0, u.0.1) in
    let here : is_undo_point made.0 ≡ false = refl in
    subst (λ (q : Op × List ℕ). is_undo_point q.0 ≡ false) (same_Some made r u.2) here

deleted : (bytes : List ℕ) (r : Op × List ℕ) → delete_at bytes ≡ Some r → is_undo_point r.0 ≡ false
unfolding delete_at
deleted bytes r e =
    let u = bind_some (uuid_at bytes) _ r e in
    let t = bind_some (task_at u.0.1) _ r u.2 in
    let made : Op × List ℕ = (Delete u.0.0 t.0.0, t.0.1) in
    let here : is_undo_point made.0 ≡ false = refl in
    subst (λ (q : Op × List ℕ). is_undo_point q.0 ≡ false) (same_Some made r t.2) here

updated : (bytes : List ℕ) (r : Op × List ℕ) → update_at bytes ≡ Some r → is_undo_point r.0 ≡ false
unfolding update_at
updated bytes r e =
    let u = bind_some (uuid_at bytes) _ r e in
    let p = bind_some (text_at u.0.1) _ r u.2 in
    let b = bind_some (option_at p.0.1) _ r p.2 in
    let a = bind_some (option_at b.0.1) _ r b.2 in
    let m = bind_some (moment_at a.0.1) _ r a.2 in
    let made : Op × List ℕ = (Update u.0.0 p.0.0 b.0.0 a.0.0 m.0.0, m.0.1) in
    let here : is_undo_point made.0 ≡ false = refl in
    subst (λ (q : Op × List ℕ). is_undo_point q.0 ≡ false) (same_Some made r m.2) here

pointed : (made r : Op × List ℕ) → is_undo_point made.0 ≡ true → Some made ≡ Some r → is_undo_point r.0 ≡ true
pointed made r here e =
    subst (λ (q : Op × List ℕ). is_undo_point q.0 ≡ true) (same_Some made r e) here

-- the first byte tells whether it is an undo point
pub point_told : (bytes : List ℕ) (r : Op × List ℕ) → op_at bytes ≡ Some r → is_undo_point r.0 ≡ begins_a_command bytes
unfolding op_at
point_told [] r e = absurd cc
point_told (zero ∷ rest) r e = absurd cc
point_told (suc zero ∷ rest) r e = created rest r e
point_told (suc (suc zero) ∷ rest) r e = deleted rest r e
point_told (suc (suc (suc zero)) ∷ rest) r e = updated rest r e
point_told (suc (suc (suc (suc zero))) ∷ rest) r e = pointed (UndoPoint, rest) r refl e
point_told (suc (suc (suc (suc (suc b)))) ∷ rest) r e = absurd cc

-- ---- those of one command

pub front_more : {A : Type 0} (front ops : List A) (read : Option (List A × List ℕ)) → with_front front (with_front ops read) ≡ with_front (front ++ ops) read
front_more front ops None = refl
front_more {A = A} front ops (Some r) = ap (λ (l : List A). Some (l, r.1)) (sym (append_assoc front ops r.0))

pub begins_same : (ops : List Op) (op : Op) → 1 ≤ length ops → begins_with_point (ops ++ op ∷ []) ≡ begins_with_point ops
begins_same [] op some = absurd (omega arith)
begins_same (x ∷ ops) op some = refl

pub no_point_last : (ops : List Op) (op : Op) → has_no_point ops ≡ true → is_undo_point op ≡ false → has_no_point (ops ++ op ∷ []) ≡ true
no_point_last [] op e not_one = ap (λ b. cond b false true) not_one
no_point_last (x ∷ ops) op e not_one = by (is_undo_point x) (λ f. no_point_last ops op f not_one) e
  where
    by : (b : Bool) → (has_no_point ops ≡ true → has_no_point (ops ++ op ∷ []) ≡ true) → cond b false (has_no_point ops) ≡ true → cond b false (has_no_point (ops ++ op ∷ [])) ≡ true
    by true rest f = absurd cc
    by false rest f = rest f

pub others_more : (ops : List Op) (op : Op) → 1 ≤ length ops → has_no_point (drop 1 ops) ≡ true → is_undo_point op ≡ false → has_no_point (drop 1 (ops ++ op ∷ [])) ≡ true
others_more [] op some e not_one = absurd (omega arith)
others_more (x ∷ ops) op some e not_one = no_point_last ops op e not_one

pub command_is_group : (ops : List Op) → 1 ≤ length ops → begins_with_point ops ≡ true → has_no_point (drop 1 ops) ≡ true → is_group ops ≡ true
command_is_group [] some first others = refl
command_is_group (op ∷ ops) some first others = ap (λ b. b && has_no_point ops) first ∙ others

-- ---- one command after the other

pub begins_more : (xs ys : List Op) → begins_with_point xs ≡ true → begins_with_point ys ≡ true → begins_with_point (xs ++ ys) ≡ true
begins_more [] ys first second = second
begins_more (x ∷ xs) ys first second = first

no_some : {A : Type 0} (x : A) → None ≡ Some x → ⊥
no_some x e = absurd cc

pub not_both : (b : Bool) → b ≡ true → b ≡ false → ⊥
not_both true p q = absurd cc
not_both false p q = absurd cc

pub begun : (left : ℕ) (b : Bool) → 0 < left → (left ≡ 0) ⊎ (b ≡ true) → b ≡ true
begun left b lt next = ⊎_elim (λ e. absurd (omega (arith, lt, e))) (λ e. e) next

module _ (count : ℕ) (bytes : List ℕ) (old : TasksValue) where
  pub not_begun : (tasks : TasksValue) (pending : List Op) → 0 < count → begins_a_command bytes ≡ false → TakesPending false count bytes old tasks pending
  unfolding many_at
  not_begun tasks pending lt not_so ops e = by count lt e
    where
      by : (n : ℕ) → 0 < n → many_at op_at n bytes ≡ Some (ops, []) → (begins_with_point ops && is_none (misfit 0 old ops)) ≡ false
      by zero lt f = absurd (omega arith)
      by (suc n) lt f =
          let all : List Op × List ℕ = (ops, []) in
          let one = bind_some (op_at bytes) _ all f in
          let rest = bind_some (many_at op_at n one.0.1) _ all one.2 in
          let made : List Op × List ℕ = (one.0.0 ∷ rest.0.0, rest.0.1) in
          let same : one.0.0 ∷ rest.0.0 ≡ ops = ap (λ (q : List Op × List ℕ). q.0) (same_Some made all rest.2) in
          ap (λ b. b && is_none (misfit 0 old ops)) (ap begins_with_point (sym same) ∙ point_told bytes one.0 one.1 ∙ not_so)

  module _ (tasks : TasksValue) (pending : List Op) (left : ℕ) (rest : List ℕ) (so_far : with_front pending (many_at op_at left rest) ≡ many_at op_at count bytes) (fit : FitAllLocal old pending) (made : tasks ≡ apply_all_local old pending) where
    pub stops : (new : TasksValue) (kept : List Op) → many_at op_at left rest ≡ None → TakesPending false count bytes old new kept
    stops new kept none ops e = absurd (no_some (ops, []) (sym (ap (with_front pending) none) ∙ so_far ∙ e))

    module _ (ops : List Op) (more : ℕ) (after : List ℕ) (command : ReadsCommand left rest ops more after) where
      pub read_more : with_front (pending ++ ops) (many_at op_at more after) ≡ many_at op_at count bytes
      read_more = sym (front_more pending ops (many_at op_at more after)) ∙ ap (with_front pending) command.read ∙ so_far

      pub misfits : (new : TasksValue) (kept : List Op) → is_none (misfit 0 tasks ops) ≡ false → TakesPending false count bytes old new kept
      misfits new kept not_so all e = by (misfit 0 old all) refl
        where
          others : (r : List Op × List ℕ) × (many_at op_at more after ≡ Some r) × (with_front (pending ++ ops) (Some r) ≡ Some (all, []))
          others = bind_some (many_at op_at more after) (λ (r : List Op × List ℕ). with_front (pending ++ ops) (Some r)) (all, []) (read_more ∙ e)

          same : (pending ++ ops) ++ others.0.0 ≡ all
          same =
              let made : List Op × List ℕ = ((pending ++ ops) ++ others.0.0, others.0.1) in
              ap (λ (q : List Op × List ℕ). q.0) (same_Some made (all, []) others.2)

          nothing : (b : Bool) → b && false ≡ false
          nothing true = refl
          nothing false = refl

          by : (o : Option ℕ) → misfit 0 old all ≡ o → (begins_with_point all && is_none o) ≡ false
          by (Some n) f = nothing (begins_with_point all)
          by None f =
              let whole : FitAllLocal old ((pending ++ ops) ++ others.0.0) = subst (FitAllLocal old) (sym same) (fits_from 0 old all f) in
              let these : FitAllLocal tasks ops = subst (λ (t : TasksValue). FitAllLocal t ops) (sym made) (fit_behind old pending ops (fit_front old (pending ++ ops) others.0.0 whole)) in
              absurd (not_both (is_none (misfit 0 tasks ops)) (ap is_none (none_misfits 0 tasks ops these)) not_so)

      module _ (fits : is_none (misfit 0 tasks ops) ≡ true) where
        pub fit_more : FitAllLocal old (pending ++ ops)
        fit_more = fit-append old pending ops fit (subst (λ (t : TasksValue). FitAllLocal t ops) made (fits_from 0 tasks ops (none_is _ fits)))

        pub made_more : (new : TasksValue) → new ≡ apply_all_local tasks ops → new ≡ apply_all_local old (pending ++ ops)
        made_more new is = is ∙ ap (λ (t : TasksValue). apply_all_local t ops) made ∙ sym (applied-append old pending ops)

    pub ended : (b : Bool) → b ≡ (length rest == 0) → left ≡ 0 → begins_with_point pending ≡ true → TakesPending b count bytes old tasks pending
    unfolding many_at
    ended b is done begins = by b is
      where
        total : many_at op_at count bytes ≡ Some (pending, rest)
        total = sym so_far ∙ ap (λ n. with_front pending (many_at op_at n rest)) done ∙ ap (λ (l : List Op). Some (l, rest)) (append-nil pending)

        by : (d : Bool) → d ≡ (length rest == 0) → TakesPending d count bytes old tasks pending
        by true e = record {
          read = total ∙ ap (λ (l : List ℕ). Some (pending, l)) (none_left rest (sym e));
          begins = begins;
          fits = none_misfits 0 old pending fit;
          tasks = made;
        }
        by false e = λ ops f.
            let none : rest ≡ [] = ap (λ (q : List Op × List ℕ). q.1) (same_Some _ (ops, []) (sym total ∙ f)) in
            absurd (not_both (length rest == 0) (ap (λ (l : List ℕ). length l == 0) none) (sym e))
