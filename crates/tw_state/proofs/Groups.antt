-- The groups of operations that bodies hold, each after an undo point, and a list of them.
use Rattle.std.proofs.Common.{◌≡◌, ℕ, zero, suc, Bool, true, false, cond, ◌&&◌, List, [], ◌∷◌, ◌++◌, length, Option, Some, None, refl, ap, subst, ◌∙◌}
use Rattle.std.specs.Prelude.{◌==◌}
use Rattle.std.specs.Int.{w32}
use Rattle.std.proofs.lemmas.Option.{same_Some, cond_some}
use Rattle.tw_model.specs.declared.Op.{Op}
use Rattle.tw_model.specs.declared.Op.TheVariants.{Create, Delete, Update, UndoPoint}
use Rattle.tw_bodies.specs.Body.{Step, is_undo_point, has_no_point, is_group}
use Rattle.tw_bodies.specs.Body.Step.{Commit, Undo, Sync, Carried, Partial, Checkpoint}
use Rattle.tw_bodies.specs.Reading.{op_at, group_of, commit_of, sync_op_at, sync_of, carried_of, all_ops_of, partial_of, place_at, tasks_at, checkpoint_of, step_of}
use Rattle.tw_fields.specs.Reading.{◌>>=◌, number_at, uuid_at, many_at, counted_at}
use Rattle.tw_state.specs.State.{in_front, split_group}
use Rattle.tw_state.specs.Pending.{BeginsWithPoint}
use Rattle.tw_fields.proofs.FieldsSpelled.{bind_some}
use Rattle.tw_numbers.proofs.Basics.{both_hold}

-- ---- a list that is split at its last undo point

some_parts : (p q : List Op × List Op) → Some p ≡ Some q → p ≡ q
some_parts p q e = ap (λ (o : Option (List Op × List Op)). of o) e
  where
    of : Option (List Op × List Op) → List Op × List Op
    of None = p
    of (Some r) = r

pub point_is : (op : Op) → is_undo_point op ≡ true → op ≡ UndoPoint
point_is UndoPoint e = refl
point_is (Create u) e = absurd cc
point_is (Delete u before) e = absurd cc
point_is (Update u p before after at) e = absurd cc

-- a split puts the list together again
pub split_is : (ops : List Op) (parts : List Op × List Op) → split_group ops ≡ Some parts → ops ≡ parts.0 ++ UndoPoint ∷ parts.1
split_is [] parts e = absurd cc
split_is (op ∷ ops) parts e = by (split_group ops) (split_is ops) e
  where
    by : (o : Option (List Op × List Op)) → ((p : List Op × List Op) → o ≡ Some p → ops ≡ p.0 ++ UndoPoint ∷ p.1) → in_front op ops o ≡ Some parts → op ∷ ops ≡ parts.0 ++ UndoPoint ∷ parts.1
    by (Some p) rest f = ap (λ (l : List Op). op ∷ l) (rest p refl) ∙ ap (λ (q : List Op × List Op). q.0 ++ UndoPoint ∷ q.1) (some_parts (op ∷ p.0, p.1) parts f)
    by None rest f = here (is_undo_point op) refl f
      where
        here : (b : Bool) → is_undo_point op ≡ b → cond b (Some ([], ops)) None ≡ Some parts → op ∷ ops ≡ parts.0 ++ UndoPoint ∷ parts.1
        here true t g = ap (λ (x : Op). x ∷ ops) (point_is op t) ∙ ap (λ (q : List Op × List Op). q.0 ++ UndoPoint ∷ q.1) (some_parts ([], ops) parts g)
        here false t g = absurd cc

-- ---- what a body holds is a group

abbrev pub IsOfGroup : Step → Type 0
IsOfGroup (Commit renumber ops) = is_group ops ≡ true
IsOfGroup Undo = Unit {0}
IsOfGroup (Sync base ops) = Unit {0}
IsOfGroup (Carried base ops) = Unit {0}
IsOfGroup (Partial base ops pending) = Unit {0}
IsOfGroup (Checkpoint base places tasks pending) = Unit {0}

pub group_read : (bytes : List ℕ) (ops : List Op) → group_of bytes ≡ Some ops → is_group ops ≡ true
unfolding group_of
group_read bytes ops e =
    let n = bind_some (number_at w32 bytes) _ ops e in
    let o = bind_some (many_at op_at n.0.0 n.0.1) _ ops n.2 in
    let w = cond_some (length o.0.1 == 0 && is_group o.0.0) o.0.0 ops o.2 in
    subst (λ (l : List Op). is_group l ≡ true) w.1 (both_hold _ _ w.0).1

with_flag : (renumber : Bool) (rest : List ℕ) (step : Step) → (group_of rest >>= λ ops. Some (Commit renumber ops)) ≡ Some step → IsOfGroup step
with_flag renumber rest step e =
    let g = bind_some _ _ step e in
    subst IsOfGroup (same_Some _ step g.2) (group_read rest g.0 g.1)

commit_read : (rest : List ℕ) (step : Step) → commit_of rest ≡ Some step → IsOfGroup step
unfolding commit_of
commit_read [] step e = absurd cc
commit_read (zero ∷ rest) step e = with_flag false rest step e
commit_read (suc zero ∷ rest) step e = with_flag true rest step e
commit_read (suc (suc b) ∷ rest) step e = absurd cc

sync_read : (rest : List ℕ) (step : Step) → sync_of rest ≡ Some step → IsOfGroup step
unfolding sync_of
sync_read rest step e =
    let u = bind_some (uuid_at rest) _ step e in
    let n = bind_some (number_at w32 u.0.1) _ step u.2 in
    let o = bind_some (many_at sync_op_at n.0.0 n.0.1) _ step n.2 in
    let made : Step = Sync u.0.0 o.0.0 in
    let here : IsOfGroup made = tt in
    subst IsOfGroup (cond_some (length o.0.1 == 0) made step o.2).1 here

carried_read : (rest : List ℕ) (step : Step) → carried_of rest ≡ Some step → IsOfGroup step
unfolding carried_of
carried_read rest step e =
    let u = bind_some (uuid_at rest) _ step e in
    let n = bind_some (number_at w32 u.0.1) _ step u.2 in
    let o = bind_some (many_at sync_op_at n.0.0 n.0.1) _ step n.2 in
    let made : Step = Carried u.0.0 o.0.0 in
    let here : IsOfGroup made = tt in
    subst IsOfGroup (cond_some (length o.0.1 == 0) made step o.2).1 here

partial_read : (rest : List ℕ) (step : Step) → partial_of rest ≡ Some step → IsOfGroup step
unfolding partial_of
partial_read rest step e =
    let u = bind_some (uuid_at rest) _ step e in
    let n = bind_some (number_at w32 u.0.1) _ step u.2 in
    let o = bind_some (many_at sync_op_at n.0.0 n.0.1) _ step n.2 in
    let p = bind_some (all_ops_of o.0.1) _ step o.2 in
    let made : Step = Partial u.0.0 o.0.0 p.0 in
    let here : IsOfGroup made = tt in
    subst IsOfGroup {x = made} (same_Some made step p.2) here

checkpoint_read : (rest : List ℕ) (step : Step) → checkpoint_of rest ≡ Some step → IsOfGroup step
unfolding checkpoint_of
checkpoint_read rest step e =
    let u = bind_some (uuid_at rest) _ step e in
    let p = bind_some (counted_at place_at u.0.1) _ step u.2 in
    let t = bind_some (tasks_at p.0.1) _ step p.2 in
    let n = bind_some (number_at w32 t.0.1) _ step t.2 in
    let o = bind_some (many_at op_at n.0.0 n.0.1) _ step n.2 in
    let made : Step = Checkpoint u.0.0 p.0.0 t.0.0 o.0.0 in
    let here : IsOfGroup made = tt in
    subst IsOfGroup (cond_some (length o.0.1 == 0) made step o.2).1 here

pub step_read : (body : List ℕ) (step : Step) → step_of body ≡ Some step → IsOfGroup step
unfolding step_of
step_read [] step e = absurd cc
step_read (zero ∷ rest) step e = absurd cc
step_read (suc zero ∷ rest) step e = commit_read rest step e
step_read (suc (suc zero) ∷ rest) step e = subst IsOfGroup (cond_some _ _ step e).1 tt
step_read (suc (suc (suc zero)) ∷ rest) step e = sync_read rest step e
step_read (suc (suc (suc (suc zero))) ∷ rest) step e = carried_read rest step e
step_read (suc (suc (suc (suc (suc zero)))) ∷ rest) step e = checkpoint_read rest step e
step_read (suc (suc (suc (suc (suc (suc zero))))) ∷ rest) step e = partial_read rest step e
step_read (suc (suc (suc (suc (suc (suc (suc b)))))) ∷ rest) step e = absurd cc

-- ---- how the operations begin

pub group_begins : (ops : List Op) → is_group ops ≡ true → BeginsWithPoint ops
group_begins [] e = tt
group_begins (op ∷ ops) e = point_is op (both_hold (is_undo_point op) (has_no_point ops) e).0

pub begins-append : (xs ys : List Op) → BeginsWithPoint xs → BeginsWithPoint ys → BeginsWithPoint (xs ++ ys)
begins-append [] ys first second = second
begins-append (x ∷ xs) ys first second = first

pub begins_front : (xs ys : List Op) → BeginsWithPoint (xs ++ ys) → BeginsWithPoint xs
begins_front [] ys whole = tt
begins_front (x ∷ xs) ys whole = whole
