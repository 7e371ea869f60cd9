-- The tasks before operations that led to some, and one walk that finds them.
use Rattle.std.proofs.Common.{◌≡◌, ℕ, Bool, true, false, cond, ◌&&◌, is_none, ◌<◌, ◌≤◌, ◌-◌, ◌+◌, List, [], ◌∷◌, ◌++◌, length, get_or, take, Option, Some, None, IsTrue, refl, sym, ap, subst, ◌∙◌, arith}
use Rattle.std.specs.Option.{option_eq}
use lib.Pointwise.{pointwise}
use Rattle.std.specs.FinMap.{get, empty, entries}
use Rattle.tw_model.specs.Maps.{same_bytes, set_at, set_inside}
use Rattle.tw_model.specs.Ops.{TaskValue, TasksValue, left_there}
use Rattle.tw_model.specs.LocalOps.{synced, same_property, is_task, has_value, fits_local, apply_some, apply_local, apply_all_local, FitAllLocal, take_back}
use Rattle.tw_model.specs.declared.Op.{Op}
use Rattle.tw_model.specs.declared.Op.TheVariants.{Create, Delete, Update, UndoPoint}
use Rattle.tw_model.specs.declared.SyncOp.TheVariants as sync
use Rattle.tw_model.proofs.Maps.{same_bytes_itself, get-set_at_here, set_at-set_at, set_at_back}
use Rattle.tw_model.proofs.Sorted.{set_if_none_none}
use Rattle.tw_model.proofs.LocalOps.{same_task_exact, same_value, taken_back, effect}
use Rattle.std.proofs.lemmas.List.{take_more}
use Rattle.tw_fields.specs.Reading.{◌>>=◌}
use Rattle.tw_state.specs.State.{is_left_by, before_one, before_all}

was_task : (before : TaskValue) (o : Option TaskValue) → is_task before o ≡ true → o ≡ Some before
was_task before None e = cc
was_task before (Some m) e = ap Some (same_task_exact m before e)

was_none : (o : Option TaskValue) → is_none o ≡ true → o ≡ None
was_none None e = refl
was_none (Some m) e = cc

same_pairs : (xs : List (List ℕ × List ℕ)) → pointwise same_property xs xs ≡ true
same_pairs [] = refl
same_pairs (x ∷ xs) =
    ap (λ b. (b && same_bytes x.1 x.1) && pointwise same_property xs xs) (same_bytes_itself x.0)
    ∙ ap (λ b. b && pointwise same_property xs xs) (same_bytes_itself x.1)
    ∙ same_pairs xs

same_option : (o : Option (List ℕ)) → option_eq same_bytes o o ≡ true
same_option None = refl
same_option (Some x) = same_bytes_itself x

-- an operation that can have led to some tasks fits before them and leads there
pub record LedTo (there : TasksValue) (op : Op) : Type 0 where
  pub fits : IsTrue (fits_local (take_back there op) op)
  pub leads : apply_local (take_back there op) op ≡ there

led : (there : TasksValue) (op : Op) → IsTrue (fits_local (take_back there op) op) → apply_some (take_back there op) (synced op) ≡ there → LedTo there op
led there op f e = record { fits = f; leads = effect (take_back there op) op f ∙ e }

create_led : (there : TasksValue) (u : List ℕ) → get there u ≡ Some empty → LedTo there (Create u)
create_led there u e =
    let gone : get (set_at there u None) u ≡ None = get-set_at_here there u None in
    led there (Create u) (ap is_none gone)
    (ap (λ o. set_at (set_at there u None) u (left_there (sync.Create u) o)) gone ∙ set_at-set_at there u None (Some empty) ∙ ap (set_at there u) (sym e) ∙ set_at_back there u)

delete_led : (there : TasksValue) (u : List ℕ) (before : TaskValue) → get there u ≡ None → LedTo there (Delete u before)
delete_led there u before e =
    let back : take_back there (Delete u before) ≡ set_at there u (Some before) = set_if_none_none there u before e in
    let has : get (take_back there (Delete u before)) u ≡ Some before = ap (λ (t : TasksValue). get t u) back ∙ get-set_at_here there u (Some before) in
    led there (Delete u before) (ap (is_task before) has ∙ same_pairs (entries before))
    (ap (λ (t : TasksValue). set_at t u None) back ∙ set_at-set_at there u (Some before) None ∙ ap (set_at there u) (sym e) ∙ set_at_back there u)

update_led : (there : TasksValue) (u p : List ℕ) (before after : Option (List ℕ)) (at : _) (o : Option TaskValue) → get there u ≡ o → has_value p after o ≡ true → LedTo there (Update u p before after at)
update_led there u p before after at None e h = cc
update_led there u p before after at (Some m) e h =
    let back : take_back there (Update u p before after at) ≡ set_at there u (Some (set_at m p before)) = ap (λ (o : Option TaskValue). set_at there u (set_inside p before o)) e in
    let has : get (take_back there (Update u p before after at)) u ≡ Some (set_at m p before) = ap (λ (t : TasksValue). get t u) back ∙ get-set_at_here there u (Some (set_at m p before)) in
    let again : set_at (set_at m p before) p after ≡ m = set_at-set_at m p before after ∙ ap (set_at m p) (sym (same_value (get m p) after h)) ∙ set_at_back m p in
    led there (Update u p before after at) (ap (has_value p before) has ∙ ap (λ o. option_eq same_bytes o before) (get-set_at_here m p before) ∙ same_option before)
    (ap (λ (o : Option TaskValue). set_at (take_back there (Update u p before after at)) u (left_there (sync.Update u p after at) o)) has
    ∙ ap (λ (t : TasksValue). set_at t u (Some (set_at (set_at m p before) p after))) back
    ∙ set_at-set_at there u (Some (set_at m p before)) (Some (set_at (set_at m p before) p after))
    ∙ ap (λ x. set_at there u (Some x)) again
    ∙ ap (set_at there u) (sym e)
    ∙ set_at_back there u)

op_led : (there : TasksValue) (op : Op) → is_left_by there op ≡ true → LedTo there op
op_led there (Create u) h = create_led there u (was_task empty (get there u) h)
op_led there (Delete u before) h = delete_led there u before (was_none (get there u) h)
op_led there (Update u p before after at) h = update_led there u p before after at (get there u) refl h
op_led there UndoPoint h = record { fits = refl; leads = refl }

-- what an operation leaves is left by it
left_some : (start : TasksValue) (op : Op) → IsTrue (fits_local start op) → is_left_by (apply_some start (synced op)) op ≡ true
left_some start (Create u) f = ap (is_task empty) (get-set_at_here start u (left_there (sync.Create u) (get start u)) ∙ ap (left_there (sync.Create u)) (was_none (get start u) f)) ∙ same_pairs (entries empty)
left_some start (Delete u before) f = ap is_none (get-set_at_here start u None)
left_some start (Update u p before after at) f = ap (has_value p after) (get-set_at_here start u (left_there (sync.Update u p after at) (get start u))) ∙ set (get start u) f
  where
    set : (o : Option TaskValue) → has_value p before o ≡ true → has_value p after (left_there (sync.Update u p after at) o) ≡ true
    set None e = cc
    set (Some m) e = ap (λ o. option_eq same_bytes o after) (get-set_at_here m p after) ∙ same_option after
left_some start UndoPoint f = refl

left_so : (start : TasksValue) (op : Op) → IsTrue (fits_local start op) → is_left_by (apply_local start op) op ≡ true
left_so start op f = ap (λ (t : TasksValue). is_left_by t op) (effect start op f) ∙ left_some start op f

some_is : (a b : TasksValue) → Some a ≡ Some b → a ≡ b
some_is a b e = cc

pub found : (tasks start : TasksValue) (ops : List Op) → before_all tasks ops ≡ Some start → FitAllLocal start ops × (tasks ≡ apply_all_local start ops)
found tasks start [] e = (tt, some_is tasks start e)
found tasks start (op ∷ ops) e = by (before_all tasks ops) refl e (λ there f. found tasks there ops f)
  where
    step : (there : TasksValue) (b : Bool) → before_all tasks ops ≡ Some there → is_left_by there op ≡ b → cond b (Some (take_back there op)) None ≡ Some start
        → ((there : TasksValue) → before_all tasks ops ≡ Some there → FitAllLocal there ops × (tasks ≡ apply_all_local there ops)) → FitAllLocal start (op ∷ ops) × (tasks ≡ apply_all_local start (op ∷ ops))
    step there true f h g again =
        let it : LedTo there op = op_led there op h in
        let here : take_back there op ≡ start = some_is (take_back there op) start g in
        let leads : apply_local start op ≡ there = ap (λ (t : TasksValue). apply_local t op) (sym here) ∙ it.leads in
        let rest = again there f in (
          (subst (λ (t : TasksValue). IsTrue (fits_local t op)) here it.fits, subst (λ (t : TasksValue). FitAllLocal t ops) (sym leads) rest.0),
          rest.1 ∙ ap (λ (t : TasksValue). apply_all_local t ops) (sym leads),
        )
    step there false f h g again = absurd cc

    by : (o : Option TasksValue) → before_all tasks ops ≡ o → (o >>= λ there. cond (is_left_by there op) (Some (take_back there op)) None) ≡ Some start
        → ((there : TasksValue) → before_all tasks ops ≡ Some there → FitAllLocal there ops × (tasks ≡ apply_all_local there ops)) → FitAllLocal start (op ∷ ops) × (tasks ≡ apply_all_local start (op ∷ ops))
    by None f g again = absurd cc
    by (Some there) f g again = step there (is_left_by there op) f refl g again

pub finds : (tasks start : TasksValue) (ops : List Op) → FitAllLocal start ops → tasks ≡ apply_all_local start ops → before_all tasks ops ≡ Some start
finds tasks start [] f e = ap Some e
finds tasks start (op ∷ ops) f e =
    ap (λ o. o >>= λ there. cond (is_left_by there op) (Some (take_back there op)) None) (finds tasks (apply_local start op) ops f.1 e)
    ∙ ap (λ b. cond b (Some (take_back (apply_local start op) op)) None) (left_so start op f.0)
    ∙ ap Some (taken_back start op f.0)

-- ---- the walk from the last operation to the first

before_last : (tasks : TasksValue) (ops : List Op) (op : Op) → before_all tasks (ops ++ op ∷ []) ≡ (before_one op tasks >>= λ there. before_all there ops)
before_last tasks [] op = by (before_one op tasks)
  where
    by : (o : Option TasksValue) → o ≡ (o >>= λ there. Some there)
    by None = refl
    by (Some there) = refl
before_last tasks (x ∷ ops) op = ap (λ o. o >>= before_one x) (before_last tasks ops op) ∙ by (before_one op tasks)
  where
    by : (o : Option TasksValue) → ((o >>= λ there. before_all there ops) >>= before_one x) ≡ (o >>= λ there. before_all there ops >>= before_one x)
    by None = refl
    by (Some there) = refl

up_to : (ops : List Op) (at : ℕ) (op : Op) → 0 < at → at ≤ length ops → op ≡ get_or ops (at - 1) op → take at ops ≡ take (at - 1) ops ++ op ∷ []
up_to ops at op some inside read = ap (λ i. take i ops) {x = at} {y = at - 1 + 1} (omega arith) ∙ take_more ops (at - 1) op (omega arith) ∙ ap (λ (x : Op). take (at - 1) ops ++ x ∷ []) (sym read)

-- one more can have led there, and is taken back
pub walk_on : (tasks new : TasksValue) (ops : List Op) (at : ℕ) (op : Op) (whole : Option TasksValue) → 0 < at → at ≤ length ops → op ≡ get_or ops (at - 1) op → is_left_by tasks op ≡ true → new ≡ take_back tasks op
    → before_all tasks (take at ops) ≡ whole → before_all new (take (at - 1) ops) ≡ whole
walk_on tasks new ops at op whole some inside read left e so_far =
    ap (λ (t : TasksValue). before_all t (take (at - 1) ops)) e
    ∙ sym (ap (λ b. cond b (Some (take_back tasks op)) None >>= λ there. before_all there (take (at - 1) ops)) left)
    ∙ sym (before_last tasks (take (at - 1) ops) op)
    ∙ ap (before_all tasks) (sym (up_to ops at op some inside read)) ∙ so_far

-- it can not, so there are no such tasks
pub walk_ends : (tasks : TasksValue) (ops : List Op) (at : ℕ) (op : Op) (whole : Option TasksValue) → 0 < at → at ≤ length ops → op ≡ get_or ops (at - 1) op → is_left_by tasks op ≡ false → before_all tasks (take at ops) ≡ whole → whole ≡ None
walk_ends tasks ops at op whole some inside read left so_far =
    sym so_far ∙ ap (before_all tasks) (up_to ops at op some inside read) ∙ before_last tasks (take (at - 1) ops) op
    ∙ ap (λ b. cond b (Some (take_back tasks op)) None >>= λ there. before_all there (take (at - 1) ops)) left
