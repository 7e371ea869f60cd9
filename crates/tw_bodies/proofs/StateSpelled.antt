-- A whole state that is read of bytes is what spells them.
use Rattle.std.proofs.Common.{◌≡◌, ℕ, zero, suc, List, [], ◌∷◌, ◌++◌, length, Option, Some, None, refl, sym, ap, subst, ◌∙◌, append_assoc}
use Rattle.std.specs.List.{flat_map, AllByRecursion}
use Rattle.std.specs.Int.{w32, to_be_bytes}
use Rattle.std.specs.FinMap.{entries, len, len-entries, from_sorted, entries-from_sorted}
use Rattle.std.proofs.lemmas.List.{append-nil}
use Rattle.std.proofs.lemmas.Option.{same_Some, cond_some}
use Rattle.tw_model.specs.Maps.{bytes_cmp}
use Rattle.tw_model.specs.Ops.{TaskValue, TasksValue}
use Rattle.tw_bodies.specs.Body.{Step, task_bytes, op_bytes, place_bytes, places_bytes, entry_bytes, tasks_bytes, ops_bytes, body_of, IsPlace, IsEntry, IsOp, IsStep}
use Rattle.tw_bodies.specs.Body.Step.{Checkpoint}
use Rattle.tw_bodies.specs.Reading.{place_at, entry_at, op_at, tasks_at, checkpoint_of}
use Rattle.tw_fields.specs.Reading.{counted_at}
use Rattle.tw_bodies.proofs.TaskSpelled.{task_spelled}
use Rattle.tw_fields.proofs.FieldsSpelled.{bind_some, AreBytes, bytes_tail, none_left, Spells, four_spelled, uuid_spelled, many_spelled, true_held}
use Rattle.tw_bodies.proofs.OpsSpelled.{op_spelled}

place_spelled : (bytes : List ℕ) (r : Option (List ℕ) × List ℕ) → AreBytes bytes → place_at bytes ≡ Some r → Spells place_bytes IsPlace bytes r
unfolding place_at
place_spelled [] r are e = absurd cc
place_spelled (zero ∷ rest) r are e =
    let here : Spells place_bytes IsPlace (zero ∷ rest) (None, rest) = (refl, tt, bytes_tail zero rest are) in
    subst (Spells place_bytes IsPlace (zero ∷ rest)) (same_Some _ r e) here
place_spelled (suc zero ∷ rest) r are e =
    let u = bind_some _ _ r e in
    let s = uuid_spelled rest u.0 (bytes_tail 1 rest are) u.1 in
    let here : Spells place_bytes IsPlace (1 ∷ rest) (Some u.0.0, u.0.1) = (ap (λ (l : List ℕ). 1 ∷ l) s.0, s.1, s.2) in
    subst (Spells place_bytes IsPlace (1 ∷ rest)) (same_Some _ r u.2) here
place_spelled (suc (suc b) ∷ rest) r are e = absurd cc

entry_spelled : (bytes : List ℕ) (r : (List ℕ × TaskValue) × List ℕ) → AreBytes bytes → entry_at bytes ≡ Some r → Spells entry_bytes IsEntry bytes r
unfolding entry_at
entry_spelled bytes r are e =
    let u = bind_some _ _ r e in
    let t = bind_some _ _ r u.2 in
    let uuid = uuid_spelled bytes u.0 are u.1 in
    let task = task_spelled u.0.1 t.0 uuid.2 t.1 in
    let spelled : bytes ≡ entry_bytes (u.0.0, t.0.0) ++ t.0.1 = uuid.0 ∙ ap (λ (l : List ℕ). u.0.0 ++ l) task.0 ∙ sym (append_assoc u.0.0 (task_bytes t.0.0) t.0.1) in
    let here : Spells entry_bytes IsEntry bytes ((u.0.0, t.0.0), t.0.1) = (spelled, (uuid.1, task.1), task.2) in
    subst (Spells entry_bytes IsEntry bytes) (same_Some _ r t.2) here

module _ {A : Type 0} (one : List ℕ → Option (A × List ℕ)) (spell : A → List ℕ) (P : A → Type 0) (one_spelled : (bytes : List ℕ) (r : A × List ℕ) → AreBytes bytes → one bytes ≡ Some r → Spells spell P bytes r) where
  abbrev counted : List A → List ℕ
  counted xs = to_be_bytes w32 (length xs) ++ flat_map spell xs

  pub counted_spelled : (bytes : List ℕ) (r : List A × List ℕ) → AreBytes bytes → counted_at one bytes ≡ Some r → Spells counted (AllByRecursion P) bytes r
  unfolding counted_at
  counted_spelled bytes r are e =
      let n = bind_some _ _ r e in
      let number = four_spelled bytes n.0 are n.1 in
      let many = many_spelled one spell P one_spelled n.0.0 n.0.1 r number.2 n.2 in
      let spelled : bytes ≡ counted r.0 ++ r.1 =
      number.0 ∙ ap (λ (l : List ℕ). to_be_bytes w32 n.0.0 ++ l) many.0 ∙ ap (λ (k : ℕ). to_be_bytes w32 k ++ (flat_map spell r.0 ++ r.1)) (sym many.1.1) ∙ sym (append_assoc (to_be_bytes w32 (length r.0)) (flat_map spell r.0) r.1) in
      (spelled, many.1.0, many.2)

abbrev AreEntries : TasksValue → Type 0
AreEntries tasks = AllByRecursion IsEntry (entries tasks)

tasks_spelled : (bytes : List ℕ) (r : TasksValue × List ℕ) → AreBytes bytes → tasks_at bytes ≡ Some r → Spells tasks_bytes AreEntries bytes r
unfolding tasks_at
tasks_spelled bytes r are e =
    let all = bind_some _ _ r e in
    let s = counted_spelled entry_at entry_bytes IsEntry entry_spelled bytes all.0 are all.1 in
    let w = cond_some _ _ r all.2 in
    let es = all.0.0 in
    let made : TasksValue = from_sorted {R = bytes_cmp} es in
    let same : entries made ≡ es = entries-from_sorted bytes_cmp es (true_held _ w.0) in
    let count : len made ≡ length es = len-entries made ∙ ap length same in
    let spelled : bytes ≡ tasks_bytes made ++ all.0.1 =
    s.0 ∙ ap (λ (n : ℕ). (to_be_bytes w32 n ++ flat_map entry_bytes es) ++ all.0.1) (sym count) ∙ ap (λ (l : List (List ℕ × TaskValue)). (to_be_bytes w32 (len made) ++ flat_map entry_bytes l) ++ all.0.1) (sym same) in
    let here : Spells tasks_bytes AreEntries bytes (made, all.0.1) = (spelled, subst (AllByRecursion IsEntry) (sym same) s.1, s.2) in
    subst (Spells tasks_bytes AreEntries bytes) w.1 here

-- the body is of the step, which is of the program
abbrev pub SpellsStep : List ℕ → Step → Type 0
SpellsStep body step = (body ≡ body_of step) × IsStep step

pub checkpoint_spelled : (rest : List ℕ) (step : Step) → AreBytes rest → checkpoint_of rest ≡ Some step → SpellsStep (5 ∷ rest) step
unfolding checkpoint_of
checkpoint_spelled bytes step are e =
    let u = bind_some _ _ step e in
    let p = bind_some _ _ step u.2 in
    let t = bind_some _ _ step p.2 in
    let n = bind_some _ _ step t.2 in
    let o = bind_some _ _ step n.2 in
    let uuid = uuid_spelled bytes u.0 are u.1 in
    let places = counted_spelled place_at place_bytes IsPlace place_spelled u.0.1 p.0 uuid.2 p.1 in
    let tasks = tasks_spelled p.0.1 t.0 places.2 t.1 in
    let number = four_spelled t.0.1 n.0 tasks.2 n.1 in
    let many = many_spelled op_at op_bytes IsOp op_spelled n.0.0 n.0.1 o.0 number.2 o.1 in
    let w = cond_some _ _ step o.2 in
    let ops = o.0.0 in
    let end : t.0.1 ≡ ops_bytes ops =
    number.0 ∙ ap (λ (l : List ℕ). to_be_bytes w32 n.0.0 ++ l) (many.0 ∙ ap (λ (l : List ℕ). flat_map op_bytes ops ++ l) (none_left o.0.1 w.0) ∙ append-nil (flat_map op_bytes ops)) ∙ ap (λ (k : ℕ). to_be_bytes w32 k ++ flat_map op_bytes ops) (sym many.1.1) in
    let spelled : bytes ≡ u.0.0 ++ (places_bytes p.0.0 ++ (tasks_bytes t.0.0 ++ ops_bytes ops)) =
    uuid.0 ∙ ap (λ (l : List ℕ). u.0.0 ++ l) (places.0 ∙ ap (λ (l : List ℕ). places_bytes p.0.0 ++ l) (tasks.0 ∙ ap (λ (l : List ℕ). tasks_bytes t.0.0 ++ l) end)) in
    let here : SpellsStep (5 ∷ bytes) (Checkpoint u.0.0 p.0.0 t.0.0 ops) = (ap (λ (l : List ℕ). 5 ∷ l) spelled, (uuid.1, places.1, tasks.1, many.1.0)) in
    subst (SpellsStep (5 ∷ bytes)) w.1 here
