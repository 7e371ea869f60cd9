-- A step that is read of bytes is what spells them.
use Rattle.std.proofs.Common.{◌≡◌, ℕ, zero, suc, ◌<◌, Bool, true, false, ltb, List, [], ◌∷◌, ◌++◌, length, get_or, Some, refl, sym, ap, subst, ◌∙◌, arith}
use Rattle.std.specs.List.{flat_map, AllByRecursion}
use Rattle.std.specs.Int.{w32, to_be_bytes}
use Rattle.std.proofs.lemmas.Bool.{and_parts, ltb-false, ltb-true}
use Rattle.std.proofs.lemmas.List.{get_or_past, append-nil, append_assoc}
use Rattle.std.proofs.lemmas.List.Elements.{All-get_or}
use Rattle.std.proofs.lemmas.Option.{same_Some, cond_some}
use Rattle.tw_model.specs.declared.Op.{Op}
use Rattle.tw_bodies.specs.Body.{Step, op_bytes, ops_bytes, sync_op_bytes, sync_ops_bytes, flag_byte, is_group, IsOp, IsSyncOp}
use Rattle.tw_bodies.specs.Body.Step.{Commit, Undo, Sync, Carried, Partial}
use Rattle.tw_bodies.specs.Reading.{op_at, group_of, commit_of, sync_op_at, sync_of, carried_of, all_ops_of, partial_of, step_of}
use Rattle.tw_fields.specs.Reading.{◌>>=◌}
use Rattle.tw_bodies.specs.Spelling.{ReadIsSpelled}
use Rattle.tw_fields.proofs.FieldsSpelled.{bind_some, AreBytes, bytes_tail, none_left, four_spelled, uuid_spelled, many_spelled}
use Rattle.tw_bodies.proofs.OpsSpelled.{op_spelled, sync_op_spelled}
use Rattle.tw_bodies.proofs.StateSpelled.{SpellsStep, counted_spelled, checkpoint_spelled}
use Rattle.tw_world.specs.Bytes.{IsBytes}

group_spelled : (bytes : List ℕ) (ops : List Op) → AreBytes bytes → group_of bytes ≡ Some ops → (bytes ≡ ops_bytes ops) × AllByRecursion IsOp ops × (is_group ops ≡ true)
unfolding group_of
group_spelled bytes ops are e =
    let n = bind_some _ _ ops e in
    let o = bind_some _ _ ops n.2 in
    let number = four_spelled bytes n.0 are n.1 in
    let many = many_spelled op_at op_bytes IsOp op_spelled n.0.0 n.0.1 o.0 number.2 o.1 in
    let w = cond_some _ _ ops o.2 in
    let tests = and_parts _ _ w.0 in
    let end : o.0.1 ≡ [] = none_left o.0.1 tests.0 in
    let xs = o.0.0 in
    let spelled : bytes ≡ ops_bytes xs =
    number.0 ∙ ap (λ (l : List ℕ). to_be_bytes w32 n.0.0 ++ l) (many.0 ∙ ap (λ (l : List ℕ). flat_map op_bytes xs ++ l) end ∙ append-nil (flat_map op_bytes xs)) ∙ ap (λ (k : ℕ). to_be_bytes w32 k ++ flat_map op_bytes xs) (sym many.1.1) in
    let here : (bytes ≡ ops_bytes xs) × AllByRecursion IsOp xs × (is_group xs ≡ true) = (spelled, many.1.0, tests.1) in
    subst (λ (l : List Op). (bytes ≡ ops_bytes l) × AllByRecursion IsOp l × (is_group l ≡ true)) w.1 here

with_flag : (renumber : Bool) (rest : List ℕ) (step : Step) → AreBytes rest → (group_of rest >>= λ ops. Some (Commit renumber ops)) ≡ Some step → SpellsStep (1 ∷ flag_byte renumber ∷ rest) step
with_flag renumber rest step are e =
    let g = bind_some _ _ step e in
    let s = group_spelled rest g.0 are g.1 in
    let here : SpellsStep (1 ∷ flag_byte renumber ∷ rest) (Commit renumber g.0) = (ap (λ (l : List ℕ). 1 ∷ flag_byte renumber ∷ l) s.0, (s.1, s.2)) in
    subst (SpellsStep (1 ∷ flag_byte renumber ∷ rest)) (same_Some _ step g.2) here

commit_spelled : (rest : List ℕ) (step : Step) → AreBytes rest → commit_of rest ≡ Some step → SpellsStep (1 ∷ rest) step
unfolding commit_of
commit_spelled [] step are e = absurd cc
commit_spelled (zero ∷ rest) step are e = with_flag false rest step (bytes_tail 0 rest are) e
commit_spelled (suc zero ∷ rest) step are e = with_flag true rest step (bytes_tail 1 rest are) e
commit_spelled (suc (suc b) ∷ rest) step are e = absurd cc

sync_spelled : (rest : List ℕ) (step : Step) → AreBytes rest → sync_of rest ≡ Some step → SpellsStep (3 ∷ rest) step
unfolding sync_of
sync_spelled bytes step are e =
    let u = bind_some _ _ step e in
    let n = bind_some _ _ step u.2 in
    let o = bind_some _ _ step n.2 in
    let uuid = uuid_spelled bytes u.0 are u.1 in
    let number = four_spelled u.0.1 n.0 uuid.2 n.1 in
    let many = many_spelled sync_op_at sync_op_bytes IsSyncOp sync_op_spelled n.0.0 n.0.1 o.0 number.2 o.1 in
    let w = cond_some _ _ step o.2 in
    let ops = o.0.0 in
    let spelled : bytes ≡ u.0.0 ++ (to_be_bytes w32 (length ops) ++ flat_map sync_op_bytes ops) =
    uuid.0 ∙ ap (λ (l : List ℕ). u.0.0 ++ l) (number.0 ∙ ap (λ (l : List ℕ). to_be_bytes w32 n.0.0 ++ l) (many.0 ∙ ap (λ (l : List ℕ). flat_map sync_op_bytes ops ++ l) (none_left o.0.1 w.0) ∙ append-nil (flat_map sync_op_bytes ops))
    ∙ ap (λ (k : ℕ). to_be_bytes w32 k ++ flat_map sync_op_bytes ops) (sym many.1.1)) in
    let here : SpellsStep (3 ∷ bytes) (Sync u.0.0 ops) = (ap (λ (l : List ℕ). 3 ∷ l) spelled, (uuid.1, many.1.0)) in
    subst (SpellsStep (3 ∷ bytes)) w.1 here

carried_spelled : (rest : List ℕ) (step : Step) → AreBytes rest → carried_of rest ≡ Some step → SpellsStep (4 ∷ rest) step
unfolding carried_of
carried_spelled bytes step are e =
    let u = bind_some _ _ step e in
    let n = bind_some _ _ step u.2 in
    let o = bind_some _ _ step n.2 in
    let uuid = uuid_spelled bytes u.0 are u.1 in
    let number = four_spelled u.0.1 n.0 uuid.2 n.1 in
    let many = many_spelled sync_op_at sync_op_bytes IsSyncOp sync_op_spelled n.0.0 n.0.1 o.0 number.2 o.1 in
    let w = cond_some _ _ step o.2 in
    let ops = o.0.0 in
    let spelled : bytes ≡ u.0.0 ++ (to_be_bytes w32 (length ops) ++ flat_map sync_op_bytes ops) =
    uuid.0 ∙ ap (λ (l : List ℕ). u.0.0 ++ l) (number.0 ∙ ap (λ (l : List ℕ). to_be_bytes w32 n.0.0 ++ l) (many.0 ∙ ap (λ (l : List ℕ). flat_map sync_op_bytes ops ++ l) (none_left o.0.1 w.0) ∙ append-nil (flat_map sync_op_bytes ops))
    ∙ ap (λ (k : ℕ). to_be_bytes w32 k ++ flat_map sync_op_bytes ops) (sym many.1.1)) in
    let here : SpellsStep (4 ∷ bytes) (Carried u.0.0 ops) = (ap (λ (l : List ℕ). 4 ∷ l) spelled, (uuid.1, many.1.0)) in
    subst (SpellsStep (4 ∷ bytes)) w.1 here

all_ops_spelled : (bytes : List ℕ) (ops : List Op) → AreBytes bytes → all_ops_of bytes ≡ Some ops → (bytes ≡ ops_bytes ops) × AllByRecursion IsOp ops
unfolding all_ops_of
all_ops_spelled bytes ops are e =
    let p = bind_some _ _ ops e in
    let pending = counted_spelled op_at op_bytes IsOp op_spelled bytes p.0 are p.1 in
    let w = cond_some _ _ ops p.2 in
    let spelled : bytes ≡ ops_bytes p.0.0 = pending.0 ∙ ap (λ (l : List ℕ). ops_bytes p.0.0 ++ l) (none_left p.0.1 w.0) ∙ append-nil (ops_bytes p.0.0) in
    let here : (bytes ≡ ops_bytes p.0.0) × AllByRecursion IsOp p.0.0 = (spelled, pending.1) in
    subst (λ (l : List Op). (bytes ≡ ops_bytes l) × AllByRecursion IsOp l) w.1 here

partial_spelled : (rest : List ℕ) (step : Step) → AreBytes rest → partial_of rest ≡ Some step → SpellsStep (6 ∷ rest) step
unfolding partial_of
partial_spelled bytes step are e =
    let u = bind_some _ _ step e in
    let n = bind_some _ _ step u.2 in
    let o = bind_some _ _ step n.2 in
    let p = bind_some _ _ step o.2 in
    let uuid = uuid_spelled bytes u.0 are u.1 in
    let number = four_spelled u.0.1 n.0 uuid.2 n.1 in
    let many = many_spelled sync_op_at sync_op_bytes IsSyncOp sync_op_spelled n.0.0 n.0.1 o.0 number.2 o.1 in
    let pending = all_ops_spelled o.0.1 p.0 many.2 p.1 in
    let ops = o.0.0 in
    let spelled : bytes ≡ u.0.0 ++ (sync_ops_bytes ops ++ ops_bytes p.0) =
    uuid.0 ∙ ap (λ (l : List ℕ). u.0.0 ++ l) (number.0 ∙ ap (λ (l : List ℕ). to_be_bytes w32 n.0.0 ++ l) (many.0 ∙ ap (λ (l : List ℕ). flat_map sync_op_bytes ops ++ l) pending.0)
    ∙ ap (λ (k : ℕ). to_be_bytes w32 k ++ (flat_map sync_op_bytes ops ++ ops_bytes p.0)) (sym many.1.1) ∙ sym (append_assoc (to_be_bytes w32 (length ops)) (flat_map sync_op_bytes ops) (ops_bytes p.0))) in
    let here : SpellsStep (6 ∷ bytes) (Partial u.0.0 ops p.0) = (ap (λ (l : List ℕ). 6 ∷ l) spelled, (uuid.1, many.1.0, pending.1)) in
    subst (SpellsStep (6 ∷ bytes)) (same_Some _ step p.2) here

step_spelled : (body : List ℕ) (step : Step) → AreBytes body → step_of body ≡ Some step → SpellsStep body step
unfolding step_of
step_spelled [] step are e = absurd cc
step_spelled (zero ∷ rest) step are e = absurd cc
step_spelled (suc zero ∷ rest) step are e = commit_spelled rest step (bytes_tail 1 rest are) e
step_spelled (suc (suc zero) ∷ rest) step are e =
    let w = cond_some _ _ step e in
    let here : SpellsStep (2 ∷ rest) Undo = (ap (λ (l : List ℕ). 2 ∷ l) (none_left rest w.0), tt) in
    subst (SpellsStep (2 ∷ rest)) w.1 here
step_spelled (suc (suc (suc zero)) ∷ rest) step are e = sync_spelled rest step (bytes_tail 3 rest are) e
step_spelled (suc (suc (suc (suc zero))) ∷ rest) step are e = carried_spelled rest step (bytes_tail 4 rest are) e
step_spelled (suc (suc (suc (suc (suc zero)))) ∷ rest) step are e = checkpoint_spelled rest step (bytes_tail 5 rest are) e
step_spelled (suc (suc (suc (suc (suc (suc zero))))) ∷ rest) step are e = partial_spelled rest step (bytes_tail 6 rest are) e
step_spelled (suc (suc (suc (suc (suc (suc (suc b)))))) ∷ rest) step are e = absurd cc

all_bytes : (body : List ℕ) → IsBytes body → AreBytes body
all_bytes body all i = by (ltb i (length body)) refl
  where
    by : (b : Bool) → ltb i (length body) ≡ b → get_or body i 0 < 256
    by true e = All-get_or (λ b. b < 256) body i 0 (ltb-true i (length body) e) all
    by false e = omega (arith, get_or_past body i 0 (ltb-false i (length body) e))

pub read_is_spelled : ReadIsSpelled
read_is_spelled body step all e = step_spelled body step (all_bytes body all) e
