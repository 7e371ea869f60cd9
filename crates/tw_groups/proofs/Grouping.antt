-- Groups of local operations.
use Rattle.std.proofs.Common.{◌≡◌, ℕ, Bool, true, false, cond, ◌&&◌, is_none, List, [], ◌∷◌, ◌++◌, Option, Some, None, IsTrue, refl, sym, ap, subst, ◌∙◌}
use Rattle.std.proofs.lemmas.List.{append-nil, append_assoc}
use Rattle.std.specs.Option.{option_eq}
use lib.Pointwise.{pointwise}
use Rattle.std.specs.FinMap.{get, entries}
use Rattle.tw_world.specs.declared.Moment.{Moment}
use Rattle.tw_model.specs.Maps.{same_bytes}
use Rattle.tw_model.specs.Ops.{TaskValue, TasksValue, uuid_of, fits, fits_there, apply, apply_all, FitAll}
use Rattle.tw_model.specs.LocalOps.{synced, put_some, plain, same_property, same_task, is_task, has_value, fits_local, apply_some, apply_local, apply_all_local, FitAllLocal, take_back_all}
use Rattle.tw_model.specs.declared.Op.{Op}
use Rattle.tw_model.specs.declared.Op.TheVariants.{Create, Delete, Update, UndoPoint}
use Rattle.tw_model.specs.declared.SyncOp.{SyncOp}
use Rattle.tw_model.specs.declared.SyncOp.TheVariants as sync
use Rattle.tw_model.proofs.Maps.{same_bytes_itself}
use Rattle.tw_model.proofs.LocalOps.{same_task_exact, same_value, all_taken_back, effect}
use Rattle.tw_transform.specs.Grid.{carry, put_if, grid}
use Rattle.tw_transform.specs.Table.{both, table_on_one}
use Rattle.tw_transform.proofs.Cancel.{grid-append_local, grid-append_server}
use Rattle.tw_groups.specs.Groups.{Groups, joined, put_in_front, parts_of, groups_of, value_in, task_in, with_old, renewed, pending_on}
use Rattle.tw_groups.specs.Cross.{cross}
use Rattle.tw_groups.specs.Laws.{GroupsHoldAll, RenewedFits, RenewedGoesBack, RenewedIsOfGroups, PendingIsRenewed, CrossIsGrid, CrossAppends, AreApart, CrossApart}

-- ---- what groups hold

held_in_front : (o : Option SyncOp) (parts : List SyncOp × Groups) → put_some o (parts.0 ++ joined parts.1) ≡ (put_in_front o parts).0 ++ joined (put_in_front o parts).1
held_in_front None parts = refl
held_in_front (Some op) parts = refl

pub groups_hold_all : GroupsHoldAll
groups_hold_all [] = refl
groups_hold_all (op ∷ ops) = ap (put_some (synced op)) (groups_hold_all ops) ∙ held_in_front (synced op) (parts_of ops)

-- ---- an operation with its old value

pub synced_with_old : (t : TasksValue) (op : SyncOp) → synced (with_old t op) ≡ Some op
synced_with_old t (sync.Create u) = refl
synced_with_old t (sync.Delete u) = refl
synced_with_old t (sync.Update u p v at) = refl

same_pairs : (xs : List (List ℕ × List ℕ)) → pointwise same_property xs xs ≡ true
same_pairs [] = refl
same_pairs (x ∷ xs) =
    ap (λ b. (b && same_bytes x.1 x.1) && pointwise same_property xs xs) (same_bytes_itself x.0)
    ∙ ap (λ b. b && pointwise same_property xs xs) (same_bytes_itself x.1)
    ∙ same_pairs xs

same_option : (o : Option (List ℕ)) → option_eq same_bytes o o ≡ true
same_option None = refl
same_option (Some x) = same_bytes_itself x

there_fits : (op : SyncOp) (t : TasksValue) → IsTrue (fits t op) → IsTrue (fits_local t (with_old t op))
there_fits (sync.Create u) t f = made (get t u) f
  where
    made : (o : Option TaskValue) → fits_there (sync.Create u) o ≡ true → is_none o ≡ true
    made None e = refl
    made (Some m) e = cc
there_fits (sync.Delete u) t f = taken (get t u) f
  where
    taken : (o : Option TaskValue) → fits_there (sync.Delete u) o ≡ true → is_task (task_in o) o ≡ true
    taken None e = cc
    taken (Some m) e = same_pairs (entries m)
there_fits (sync.Update u p v at) t f = set (get t u) f
  where
    set : (o : Option TaskValue) → fits_there (sync.Update u p v at) o ≡ true → has_value p (value_in p o) o ≡ true
    set None e = cc
    set (Some m) e = same_option (get m p)

acts_so : (t : TasksValue) (op : SyncOp) → IsTrue (fits t op) → apply_local t (with_old t op) ≡ apply t op
acts_so t op f = effect t (with_old t op) (there_fits op t f) ∙ ap (apply_some t) (synced_with_old t op)

-- ---- lists of them

local-append : (t : TasksValue) (xs ys : List Op) → apply_all_local t (xs ++ ys) ≡ apply_all_local (apply_all_local t xs) ys
local-append t [] ys = refl
local-append t (x ∷ xs) ys = local-append (apply_local t x) xs ys

FitAllLocal-append : (t : TasksValue) (xs ys : List Op) → FitAllLocal t xs → FitAllLocal (apply_all_local t xs) ys → FitAllLocal t (xs ++ ys)
FitAllLocal-append t [] ys f g = g
FitAllLocal-append t (x ∷ xs) ys f g = (f.0, FitAllLocal-append (apply_local t x) xs ys f.1 g)

apply_all-append : (t : TasksValue) (xs ys : List SyncOp) → apply_all t (xs ++ ys) ≡ apply_all (apply_all t xs) ys
apply_all-append t [] ys = refl
apply_all-append t (x ∷ xs) ys = apply_all-append (apply t x) xs ys

FitAll-front : (t : TasksValue) (xs ys : List SyncOp) → FitAll t (xs ++ ys) → FitAll t xs
FitAll-front t [] ys f = tt
FitAll-front t (x ∷ xs) ys f = (f.0, FitAll-front (apply t x) xs ys f.1)

pub FitAll-back : (t : TasksValue) (xs ys : List SyncOp) → FitAll t (xs ++ ys) → FitAll (apply_all t xs) ys
FitAll-back t [] ys f = f
FitAll-back t (x ∷ xs) ys f = FitAll-back (apply t x) xs ys f.1

renewed_fits_one : (t : TasksValue) (ops : List SyncOp) → FitAll t ops → FitAllLocal t (renewed t ops) × (apply_all_local t (renewed t ops) ≡ apply_all t ops)
renewed_fits_one t [] f = (tt, refl)
renewed_fits_one t (op ∷ ops) f =
    let same : apply_local t (with_old t op) ≡ apply t op = acts_so t op f.0 in
    let rest = renewed_fits_one (apply t op) ops f.1 in (
      (there_fits op t f.0, subst (λ w. FitAllLocal w (renewed (apply t op) ops)) (sym same) rest.0),
      ap (λ w. apply_all_local w (renewed (apply t op) ops)) same ∙ rest.1,
    )

pub renewed_fits : RenewedFits
renewed_fits t [] f = (tt, refl)
renewed_fits t (g ∷ gs) f =
    let one = renewed_fits_one t g (FitAll-front t g (joined gs) f) in
    let rest = renewed_fits (apply_all t g) gs (FitAll-back t g (joined gs) f) in (
      (refl, FitAllLocal-append t (renewed t g) (pending_on (apply_all t g) gs) one.0 (subst (λ w. FitAllLocal w (pending_on (apply_all t g) gs)) (sym one.1) rest.0)),
      local-append t (renewed t g) (pending_on (apply_all t g) gs)
          ∙ ap (λ w. apply_all_local w (pending_on (apply_all t g) gs)) one.1
          ∙ rest.1
          ∙ sym (apply_all-append t g (joined gs)),
    )

pub renewed_goes_back : RenewedGoesBack
renewed_goes_back t gs f =
    let is = renewed_fits t gs f in
    ap (λ w. take_back_all w (pending_on t gs)) (sym is.1) ∙ all_taken_back t (pending_on t gs) is.0

-- ---- the groups of what groups become

front_of_group : (t : TasksValue) (g : List SyncOp) (more : List Op) → parts_of (renewed t g ++ more) ≡ (g ++ (parts_of more).0, (parts_of more).1)
front_of_group t [] more = refl
front_of_group t (op ∷ g) more =
    ap (λ o. put_in_front o (parts_of (renewed (apply t op) g ++ more))) (synced_with_old t op)
    ∙ ap (put_in_front (Some op)) (front_of_group (apply t op) g more)

parts_back : (t : TasksValue) (gs : Groups) → parts_of (pending_on t gs) ≡ ([], gs)
parts_back t [] = refl
parts_back t (g ∷ gs) =
    let more : List Op = pending_on (apply_all t g) gs in
    ap (put_in_front None) (front_of_group t g more ∙ ap (λ (p : List SyncOp × Groups). (g ++ p.0, p.1)) (parts_back (apply_all t g) gs))
    ∙ ap (λ zs. ([], zs ∷ gs)) (append-nil g)

pub renewed_is_of_groups : RenewedIsOfGroups
renewed_is_of_groups t gs =
    let back = parts_back t gs in (
      ap (λ (p : List SyncOp × Groups). p.1) back,
      groups_hold_all (pending_on t gs) ∙ ap (λ (p : List SyncOp × Groups). p.0 ++ joined p.1) back,
    )

-- ---- pending operations that fit are what their groups become

was_there : (before : TaskValue) (o : Option TaskValue) → is_task before o ≡ true → task_in o ≡ before
was_there before None e = cc
was_there before (Some m) e = same_task_exact m before e

had_value : (p : List ℕ) (before : Option (List ℕ)) (o : Option TaskValue) → has_value p before o ≡ true → value_in p o ≡ before
had_value p before None e = cc
had_value p before (Some m) e = same_value (get m p) before e

all_parts : TasksValue → List SyncOp × Groups → List Op
all_parts t parts = renewed t parts.0 ++ pending_on (apply_all t parts.0) parts.1

is_all : (t : TasksValue) (ops : List Op) → FitAllLocal t ops → renewed t (parts_of ops).0 ++ pending_on (apply_all t (parts_of ops).0) (parts_of ops).1 ≡ ops
is_all t [] f = refl
is_all t (UndoPoint ∷ ops) f = ap (λ zs. UndoPoint ∷ zs) (is_all t ops f.1)
is_all t (Create u ∷ ops) f =
    let op : Op = Create u in
    let rest = parts_of ops in
    let same : apply_local t op ≡ apply t (sync.Create u) = effect t op f.0 in
    ap (λ zs. op ∷ zs) (is_all (apply t (sync.Create u)) ops (subst (λ w. FitAllLocal w ops) same f.1))
is_all t (Delete u before ∷ ops) f =
    let op : Op = Delete u before in
    let same : apply_local t op ≡ apply t (sync.Delete u) = effect t op f.0 in
    ap (λ m. Delete u m ∷ (renewed (apply t (sync.Delete u)) (parts_of ops).0 ++ pending_on (apply_all (apply t (sync.Delete u)) (parts_of ops).0) (parts_of ops).1)) (was_there before (get t u) f.0)
    ∙ ap (λ zs. op ∷ zs) (is_all (apply t (sync.Delete u)) ops (subst (λ w. FitAllLocal w ops) same f.1))
is_all t (Update u p before after at ∷ ops) f =
    let op : Op = Update u p before after at in
    let it : SyncOp = sync.Update u p after at in
    let same : apply_local t op ≡ apply t it = effect t op f.0 in
    ap (λ o. Update u p o after at ∷ (renewed (apply t it) (parts_of ops).0 ++ pending_on (apply_all (apply t it) (parts_of ops).0) (parts_of ops).1)) (had_value p before (get t u) f.0)
    ∙ ap (λ zs. op ∷ zs) (is_all (apply t it) ops (subst (λ w. FitAllLocal w ops) same f.1))

pub pending_is_renewed : PendingIsRenewed
pending_is_renewed t pending none f =
    sym (ap (λ ops. renewed t ops ++ pending_on (apply_all t ops) (groups_of pending)) none) ∙ is_all t pending f

-- ---- crossing groups

none_local : (ss : List SyncOp) → grid ss [] ≡ (ss, [])
none_local [] = refl
none_local (s ∷ ss) = ap (λ (g : List SyncOp × List SyncOp). (s ∷ g.0, g.1)) (none_local ss)

pub cross_is_grid : CrossIsGrid
cross_is_grid ss [] = (sym (ap (λ (g : List SyncOp × List SyncOp). g.0) (none_local ss)), sym (ap (λ (g : List SyncOp × List SyncOp). g.1) (none_local ss)))
cross_is_grid ss (g ∷ gs) =
    let first = grid ss g in
    let rest = cross_is_grid first.0 gs in
    let whole = grid-append_local ss g (joined gs) in (
      rest.0 ∙ sym (ap (λ (h : List SyncOp × List SyncOp). h.0) whole),
      ap (λ zs. first.1 ++ zs) rest.1 ∙ sym (ap (λ (h : List SyncOp × List SyncOp). h.1) whole),
    )

-- ---- one after another

pub cross_appends : CrossAppends
cross_appends ss ts [] = refl
cross_appends ss ts (g ∷ gs) =
    let first = grid ss g in
    let second = grid ts first.1 in
    ap (λ (h : List SyncOp × List SyncOp). (let rest = cross h.0 gs in (rest.0, h.1 ∷ rest.1))) (grid-append_server ss ts g)
    ∙ ap (λ (h : List SyncOp × Groups). (h.0, second.1 ∷ h.1)) (cross_appends first.0 second.0 gs)

carry_apart : (op : SyncOp) (ls : List SyncOp) → AreApart (uuid_of op) ls → carry op ls ≡ (true, ls)
carry_apart op [] a = refl
carry_apart op (l ∷ ls) a =
    ap (λ b. (let kept = cond b (table_on_one op l) both in let rest = cond kept.server (carry op ls) (false, ls) in (rest.0, put_if kept.local l rest.1))) a.0
    ∙ ap (λ (c : Bool × List SyncOp). (c.0, l ∷ c.1)) (carry_apart op ls a.1)

apart_front : (u : List ℕ) (xs ys : List SyncOp) → AreApart u (xs ++ ys) → AreApart u xs × AreApart u ys
apart_front u [] ys a = (tt, a)
apart_front u (x ∷ xs) ys a = let rest = apart_front u xs ys a.1 in ((a.0, rest.0), rest.1)

pub cross_apart : CrossApart
cross_apart op [] a = refl
cross_apart op (g ∷ gs) a =
    let parts = apart_front (uuid_of op) g (joined gs) a in
    ap (λ (c : Bool × List SyncOp). (let rest = cross (put_if c.0 op []) gs in (rest.0, c.1 ∷ rest.1))) (carry_apart op g parts.0)
    ∙ ap (λ (h : List SyncOp × Groups). (h.0, g ∷ h.1)) (cross_apart op gs parts.1)
