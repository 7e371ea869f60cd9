-- Which uuids have a task once an operation is applied or taken back.
use Rattle.std.proofs.Common.{◌≡◌, ℕ, ◌+◌, Bool, true, false, cond, List, [], ◌∷◌, ◌++◌, Option, Some, None, is_some, is_none, refl, sym, ap, subst, ◌∙◌}
use Rattle.std.specs.Option.{unwrap_or}
use Rattle.std.specs.Ordering.{eq_by_cmp}
use Rattle.std.specs.Cmp.Lexicographic.{texts_ties}
use Rattle.std.specs.BTreeMap as tree
use Rattle.std.specs.FinMap.{get, insert}
use Rattle.tw_model.specs.Maps.{bytes_cmp, same_bytes, set_at, set_if_none, set_inside}
use Rattle.tw_model.specs.Ops.{TaskValue, TasksValue, left_there, apply, fit_part, fits}
use Rattle.tw_model.specs.LocalOps.{take_back}
use Rattle.tw_model.specs.declared.Op.{Op}
use Rattle.tw_model.specs.declared.Op.TheVariants as local
use Rattle.tw_model.specs.declared.SyncOp.{SyncOp}
use Rattle.tw_model.specs.declared.SyncOp.TheVariants.{Create, Delete, Update}
use Rattle.tw_model.proofs.Maps.{same_bytes_back, same_bytes_exact, get-set_at}
use Rattle.tw_model.proofs.Ops.{apply_unfit}
use Rattle.tw_model.proofs.Sorted.{set_if_none_none}
use Rattle.tw_path.specs.Presence.{has, Tells}
use Rattle.tw_path.specs.declared.presence.Presence.{Presence}

unwrapped : (t x d : Bool) (o : Option Bool) → unwrap_or (cond t (Some x) o) d ≡ cond t x (unwrap_or o d)
unwrapped true x d o = refl
unwrapped false x d o = refl

pub noted : (old new : Presence) (uuid : List ℕ) (there : Bool) → ((q : List ℕ) → tree.get bytes_cmp new.changed q ≡ cond (eq_by_cmp bytes_cmp uuid q) (Some there) (tree.get bytes_cmp old.changed q))
    → (tasks : TasksValue) (u : List ℕ) → has new tasks u ≡ cond (same_bytes u uuid) there (has old tasks u)
noted old new uuid there updates tasks u =
    let d : Bool = is_some (get tasks u) in
    ap (λ o. unwrap_or o d) (updates u) ∙ unwrapped (eq_by_cmp bytes_cmp uuid u) there d (tree.get bytes_cmp old.changed u)
    ∙ ap (λ t. cond t there (has old tasks u)) (sym (texts_ties uuid u) ∙ same_bytes_back uuid u)

-- the presence of the task of a uuid is noted as it becomes
abbrev pub Notes : (old new : Presence) (uuid : List ℕ) (there : Bool) → Type 0
Notes old new uuid there = (tasks : TasksValue) (u : List ℕ) → has new tasks u ≡ cond (same_bytes u uuid) there (has old tasks u)

some_of : (t : Bool) (o p : Option TaskValue) → cond t (is_some o) (is_some p) ≡ is_some (cond t o p)
some_of true o p = refl
some_of false o p = refl

pub tells_set : (old new : Presence) (uuid : List ℕ) (there : Bool) (o : Option TaskValue) → Notes old new uuid there → is_some o ≡ there → (tasks other : TasksValue) → Tells old tasks other → Tells new tasks (set_at other uuid o)
tells_set old new uuid there o notes is tasks other tells = λ u.
    notes tasks u ∙ ap (λ b. cond (same_bytes u uuid) b (has old tasks u)) (sym is) ∙ ap (cond (same_bytes u uuid) (is_some o)) (tells u)
    ∙ some_of (same_bytes u uuid) o (get other u) ∙ ap is_some (sym (get-set_at other uuid o u))

-- the task of a uuid changes, and none comes or goes
pub tells_changed : (presence : Presence) (uuid : List ℕ) (tasks other : TasksValue) (o : Option TaskValue) → is_some o ≡ is_some (get other uuid) → Tells presence tasks other → Tells presence tasks (set_at other uuid o)
tells_changed presence uuid tasks other o is tells = λ u. tells u ∙ by u (same_bytes u uuid) refl ∙ ap is_some (sym (get-set_at other uuid o u))
  where
    by : (u : List ℕ) (t : Bool) → same_bytes u uuid ≡ t → is_some (get other u) ≡ is_some (cond (same_bytes u uuid) o (get other u))
    by u true e = ap (λ v. is_some (get other v)) (same_bytes_exact u uuid e) ∙ sym is ∙ ap (λ b. is_some (cond b o (get other u))) (sym e)
    by u false e = ap (λ b. is_some (cond b o (get other u))) (sym e)

inside_stays : (p : List ℕ) (v : Option (List ℕ)) (o : Option TaskValue) → is_some (set_inside p v o) ≡ is_some o
inside_stays p v None = refl
inside_stays p v (Some m) = refl

-- ---- an operation of this replica is taken back

pub back_create : (old new : Presence) (op : Op) (uuid : List ℕ) → op ≡ local.Create uuid → Notes old new uuid false → (tasks other : TasksValue) → Tells old tasks other → Tells new tasks (take_back other op)
back_create old new op uuid is notes tasks other tells = subst (λ o. Tells new tasks (take_back other o)) (sym is) (tells_set old new uuid false None notes refl tasks other tells)

pub back_delete : (old new : Presence) (op : Op) (uuid : List ℕ) (before : TaskValue) → op ≡ local.Delete uuid before → Notes old new uuid true → (tasks other : TasksValue) → Tells old tasks other → Tells new tasks (take_back other op)
back_delete old new op uuid before is notes tasks other tells = subst (λ o. Tells new tasks (take_back other o)) (sym is) (by (get other uuid) refl)
  where
    there : (u : List ℕ) (t : Bool) (task : TaskValue) → get other uuid ≡ Some task → same_bytes u uuid ≡ t → cond (same_bytes u uuid) true (has old tasks u) ≡ is_some (get other u)
    there u true task e same = ap (λ b. cond b true (has old tasks u)) same ∙ ap is_some (sym e) ∙ ap (λ v. is_some (get other v)) (sym (same_bytes_exact u uuid same))
    there u false task e same = ap (λ b. cond b true (has old tasks u)) same ∙ tells u

    by : (o : Option TaskValue) → get other uuid ≡ o → Tells new tasks (set_if_none other uuid before)
    by None e = subst (Tells new tasks) (sym (set_if_none_none other uuid before e)) (tells_set old new uuid true (Some before) notes refl tasks other tells)
    by (Some task) e = subst (Tells new tasks) (sym (ap (λ (o : Option TaskValue). cond (is_none o) (insert other uuid before) other) e)) (λ u. notes tasks u ∙ there u (same_bytes u uuid) task e refl)

pub back_update : (presence : Presence) (op : Op) (uuid p : List ℕ) (before after : Option (List ℕ)) (at : _) → op ≡ local.Update uuid p before after at → (tasks other : TasksValue) → Tells presence tasks other → Tells presence tasks (take_back other op)
back_update presence op uuid p before after at is tasks other tells =
    subst (λ o. Tells presence tasks (take_back other o)) (sym is) (tells_changed presence uuid tasks other (set_inside p before (get other uuid)) (inside_stays p before (get other uuid)) tells)

-- ---- an operation of a version is applied

made_some : (uuid : List ℕ) (o : Option TaskValue) → is_some (left_there (Create uuid) o) ≡ true
made_some uuid None = refl
made_some uuid (Some m) = refl

update_stays : (u p : List ℕ) (v : Option (List ℕ)) (at : _) (o : Option TaskValue) → is_some (left_there (Update u p v at) o) ≡ is_some o
update_stays u p v at None = refl
update_stays u p v at (Some m) = refl

pub on_create : (old new : Presence) (op : SyncOp) (uuid : List ℕ) → op ≡ Create uuid → Notes old new uuid true → (tasks other : TasksValue) → Tells old tasks other → Tells new tasks (apply other op)
on_create old new op uuid is notes tasks other tells = subst (λ o. Tells new tasks (apply other o)) (sym is) (tells_set old new uuid true (left_there (Create uuid) (get other uuid)) notes (made_some uuid (get other uuid)) tasks other tells)

pub on_delete : (old new : Presence) (op : SyncOp) (uuid : List ℕ) → op ≡ Delete uuid → Notes old new uuid false → (tasks other : TasksValue) → Tells old tasks other → Tells new tasks (apply other op)
on_delete old new op uuid is notes tasks other tells = subst (λ o. Tells new tasks (apply other o)) (sym is) (tells_set old new uuid false None notes refl tasks other tells)

pub on_update : (presence : Presence) (op : SyncOp) (u p : List ℕ) (v : Option (List ℕ)) (at : _) → op ≡ Update u p v at → (tasks other : TasksValue) → Tells presence tasks other → Tells presence tasks (apply other op)
on_update presence op u p v at is tasks other tells =
    subst (λ o. Tells presence tasks (apply other o)) (sym is) (tells_changed presence u tasks other (left_there (Update u p v at) (get other u)) (update_stays u p v at (get other u)) tells)

-- ---- what fits

pub fit_cons : (t : TasksValue) (op : SyncOp) (ops : List SyncOp) → fit_part t (op ∷ ops) ≡ fit_part t (op ∷ []) ++ fit_part (apply t op) ops
fit_cons t op ops = elim (fits t op) as (λ b. fits t op ≡ b → cond b (op ∷ fit_part (apply t op) ops) (fit_part t ops) ≡ cond b (op ∷ []) [] ++ fit_part (apply t op) ops) [
  | true ↦ λ e. refl
  | false ↦ λ e. ap (λ (w : TasksValue). fit_part w ops) (sym (apply_unfit t op e))
] refl
