-- What is left is renewed by the tasks that pending is about alone.
use Rattle.std.proofs.Common.{◌≡◌, ℕ, Bool, true, false, List, [], ◌∷◌, ◌++◌, refl, sym, ap, ◌∙◌}
use Rattle.std.proofs.lemmas.Bool.{true≢false}
use Rattle.std.specs.Prelude.{Result, Ok, Err, IfOk}
use Rattle.std.specs.BTreeSet as set
use Rattle.std.specs.FinMap.{get}
use Rattle.tw_model.specs.Maps.{bytes_cmp}
use Rattle.tw_model.specs.Ops.{TasksValue, uuid_of, apply, apply_all}
use Rattle.tw_model.specs.declared.Op.{Op}
use Rattle.tw_model.specs.declared.Op.TheVariants.{Create, Delete, Update, UndoPoint}
use Rattle.tw_model.specs.declared.SyncOp.{SyncOp}
use Rattle.tw_model.specs.declared.SyncOp.TheVariants as sync
use Rattle.tw_model.proofs.Maps.{same_bytes_itself}
use Rattle.tw_groups.specs.Groups.{Groups, joined, value_in, task_in, with_old, renewed, pending_on}
use Rattle.tw_groups.specs.Held.{groups_in}
use Rattle.tw_groups.specs.Laws.{AreApart}
use Rattle.tw_path.specs.Path.{Reached}
use Rattle.tw_path.specs.Walk.{StandsAt}
use Rattle.tw_path.specs.declared.walker.Walker.{Walker}
use Rattle.tw_path.proofs.Walking.{same_task_after}

-- of the tasks that operations are about, two databases have the same
abbrev pub SameFor : List SyncOp → TasksValue → TasksValue → Type 0
SameFor [] a b = Unit {0}
SameFor (op ∷ ops) a b = (get a (uuid_of op) ≡ get b (uuid_of op)) × SameFor ops a b

-- ---- what is renewed

same_old : (a b : TasksValue) (op : SyncOp) → get a (uuid_of op) ≡ get b (uuid_of op) → with_old a op ≡ with_old b op
same_old a b (sync.Create u) e = refl
same_old a b (sync.Delete u) e = ap (λ o. Delete u (task_in o)) e
same_old a b (sync.Update u p v at) e = ap (λ o. Update u p (value_in p o) v at) e

after_one : (a b : TasksValue) (op : SyncOp) (ops : List SyncOp) → get a (uuid_of op) ≡ get b (uuid_of op) → SameFor ops a b → SameFor ops (apply a op) (apply b op)
after_one a b op [] e s = tt
after_one a b op (x ∷ ops) e s = (same_task_after a b op (uuid_of x) s.0 e, after_one a b op ops e s.1)

front : (xs ys : List SyncOp) (a b : TasksValue) → SameFor (xs ++ ys) a b → SameFor xs a b
front [] ys a b s = tt
front (x ∷ xs) ys a b s = (s.0, front xs ys a b s.1)

behind : (xs ys : List SyncOp) (a b : TasksValue) → SameFor (xs ++ ys) a b → SameFor ys (apply_all a xs) (apply_all b xs)
behind [] ys a b s = s
behind (x ∷ xs) ys a b s = behind xs ys (apply a x) (apply b x) (after_one a b x (xs ++ ys) s.0 s.1)

same_renewed : (ops : List SyncOp) (a b : TasksValue) → SameFor ops a b → renewed a ops ≡ renewed b ops
same_renewed [] a b s = refl
same_renewed (op ∷ ops) a b s = λ i. same_old a b op s.0 i ∷ same_renewed ops (apply a op) (apply b op) (after_one a b op ops s.0 s.1) i

pub same_pending : (gs : Groups) (a b : TasksValue) → SameFor (joined gs) a b → pending_on a gs ≡ pending_on b gs
same_pending [] a b s = refl
same_pending (g ∷ gs) a b s =
    λ i. UndoPoint ∷ (same_renewed g a b (front g (joined gs) a b s) i ++ same_pending gs (apply_all a g) (apply_all b g) (behind g (joined gs) a b s) i)

-- ---- what the code knows

-- what is left is about uuids of pending
among : (w : Walker) (r : Reached) (ops : List SyncOp) → ((u : List ℕ) → set.contains bytes_cmp w.mine u ≡ false → AreApart u ops)
    → ((u : List ℕ) → set.contains bytes_cmp w.mine u ≡ true → get w.tasks u ≡ get r.tasks u) → SameFor ops w.tasks r.tasks
among w r [] mine part = tt
among w r (op ∷ ops) mine part = (by (set.contains bytes_cmp w.mine (uuid_of op)) refl, among w r ops (λ u e. (mine u e).1) part)
  where
    by : (b : Bool) → set.contains bytes_cmp w.mine (uuid_of op) ≡ b → get w.tasks (uuid_of op) ≡ get r.tasks (uuid_of op)
    by true e = part (uuid_of op) e
    by false e = absurd (true≢false (sym (same_bytes_itself (uuid_of op)) ∙ (mine (uuid_of op) e).0))

pub pends : (hand : TasksValue) (r : Reached) (w : Walker) → StandsAt hand r w → pending_on w.tasks (groups_in w.left.items) ≡ pending_on r.tasks r.left
pends hand r w s =
    ap (pending_on w.tasks) s.left ∙ same_pending r.left w.tasks r.tasks (among w r (joined r.left) s.mine s.part)

pub if_ok : {A E : Type 0} (r : Result A E) (P Q : A → Type 0) → ((a : A) → P a → Q a) → IfOk r P → IfOk r Q
if_ok (Ok a) P Q f p = f a p
if_ok (Err e) P Q f p = p

-- a list that was renewed by what the code knows is what is pending there
pub renews : (w : Walker) (ops : List Op) → ops ≡ pending_on w.tasks (groups_in w.left.items) → (hand : TasksValue) (r : Reached) → StandsAt hand r w → ops ≡ pending_on r.tasks r.left
renews w ops e hand r s = e ∙ pends hand r w s
