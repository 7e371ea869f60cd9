-- Operations are taken back, and the tasks that they are about are copied.
use Rattle.std.proofs.Common.{◌≡◌, ℕ, Bool, true, false, cond, List, [], ◌∷◌, Option, Some, None, is_none, option_map, refl, sym, ap, subst, ◌∙◌}
use Rattle.std.proofs.lemmas.Bool.{true≢false}
use Rattle.std.specs.BTreeSet as set
use Rattle.std.specs.Ordering.{eq_by_cmp}
use Rattle.std.specs.Cmp.Lexicographic.{texts_ties}
use Rattle.std.specs.BTreeMap.{is_at}
use Rattle.std.specs.List.{list_any}
use Rattle.std.specs.FinMap.{get, insert, empty, get-empty}
use Rattle.tw_model.specs.Maps.{bytes_cmp, same_bytes, set_at, set_if_none, set_inside}
use Rattle.tw_model.specs.Ops.{TaskValue, TasksValue, uuid_of}
use Rattle.tw_model.specs.LocalOps.{synced, put_some, plain, take_back, take_back_all}
use Rattle.tw_model.specs.Places.{has_uuid}
use Rattle.tw_model.specs.declared.Op.{Op}
use Rattle.tw_model.specs.declared.Op.TheVariants.{Create, Delete, Update, UndoPoint}
use Rattle.tw_model.specs.declared.SyncOp.{SyncOp}
use Rattle.tw_model.proofs.Maps.{same_bytes_exact, same_bytes_back, get-set_at, set_at_back}
use Rattle.tw_groups.specs.Groups.{joined, parts_of, groups_of}
use Rattle.tw_groups.specs.Held.{groups_in}
use Rattle.tw_groups.specs.Laws.{AreApart}
use Rattle.tw_groups.proofs.Grouping.{groups_hold_all}
use Rattle.tw_path.specs.Presence.{Tells}
use Rattle.tw_path.specs.Walk.{StandsAt, IsBefore, GainsCopy, before_pending}
use Rattle.tw_path.specs.declared.walker.Walker.{Walker}
use Rattle.tw_path.proofs.Pushing.{apart_back}

-- ---- what taking back does to the task of one uuid

-- a task, if there is none
abbrev filled : TaskValue → Option TaskValue → Option TaskValue
filled x None = Some x
filled x (Some m) = Some m

filled_is : (t : TasksValue) (u : List ℕ) (x : TaskValue) → set_if_none t u x ≡ set_at t u (filled x (get t u))
filled_is t u x = by (get t u) refl
  where
    by : (o : Option TaskValue) → get t u ≡ o → set_if_none t u x ≡ set_at t u (filled x o)
    by None e = ap (λ o. cond (is_none o) (insert t u x) t) e
    by (Some m) e = ap (λ o. cond (is_none o) (insert t u x) t) e ∙ sym (set_at_back t u) ∙ ap (set_at t u) e

-- setting a task by what it was makes the same of the same
set_alike : (f : Option TaskValue → Option TaskValue) (v u : List ℕ) (a b : TasksValue) → get a u ≡ get b u → get (set_at a v (f (get a v))) u ≡ get (set_at b v (f (get b v))) u
set_alike f v u a b e = get-set_at a v (f (get a v)) u ∙ by (same_bytes u v) refl ∙ sym (get-set_at b v (f (get b v)) u)
  where
    by : (k : Bool) → same_bytes u v ≡ k → cond k (f (get a v)) (get a u) ≡ cond k (f (get b v)) (get b u)
    by true is = let here : u ≡ v = same_bytes_exact u v is in ap f (ap (get a) (sym here) ∙ e ∙ ap (get b) here)
    by false is = e

pub back_alike : (op : Op) (u : List ℕ) (a b : TasksValue) → get a u ≡ get b u → get (take_back a op) u ≡ get (take_back b op) u
back_alike (Create v) u a b e = set_alike (λ o. None) v u a b e
back_alike (Delete v before) u a b e =
    ap (λ (t : TasksValue). get t u) (filled_is a v before) ∙ set_alike (filled before) v u a b e ∙ sym (ap (λ (t : TasksValue). get t u) (filled_is b v before))
back_alike (Update v p before after at) u a b e = set_alike (set_inside p before) v u a b e
back_alike UndoPoint u a b e = e

-- the task of another uuid stays
set_apart : (t : TasksValue) (v u : List ℕ) (o : Option TaskValue) → same_bytes u v ≡ false → get (set_at t v o) u ≡ get t u
set_apart t v u o e = get-set_at t v o u ∙ ap (λ k. cond k o (get t u)) e

pub back_apart : (op : Op) (u : List ℕ) (t : TasksValue) → has_uuid u (option_map uuid_of (synced op)) ≡ false → get (take_back t op) u ≡ get t u
back_apart (Create v) u t e = set_apart t v u None e
back_apart (Delete v before) u t e = ap (λ (w : TasksValue). get w u) (filled_is t v before) ∙ set_apart t v u (filled before (get t v)) e
back_apart (Update v p before after at) u t e = set_apart t v u (set_inside p before (get t v)) e
back_apart UndoPoint u t e = refl

-- ---- lists of operations

apart_more : (u : List ℕ) (o : Option SyncOp) (ops : List SyncOp) → has_uuid u (option_map uuid_of o) ≡ false → AreApart u ops → AreApart u (put_some o ops)
apart_more u None ops e a = a
apart_more u (Some op) ops e a = (e, a)

apart_less : (u : List ℕ) (o : Option SyncOp) (ops : List SyncOp) → AreApart u (put_some o ops) → (has_uuid u (option_map uuid_of o) ≡ false) × AreApart u ops
apart_less u None ops a = (refl, a)
apart_less u (Some op) ops a = (a.0, a.1)

pub all_back_apart : (ops : List Op) (u : List ℕ) (t : TasksValue) → AreApart u (plain ops) → get (take_back_all t ops) u ≡ get t u
all_back_apart [] u t a = refl
all_back_apart (op ∷ ops) u t a =
    let both = apart_less u (synced op) (plain ops) a in
    back_apart op u (take_back_all t ops) both.0 ∙ all_back_apart ops u t both.1

-- ---- a task is copied

either : (b c : Bool) → cond b true c ≡ false → (b ≡ false) × (c ≡ false)
either true c e = cc
either false c e = (refl, e)

module _ (hand : TasksValue) (v : List ℕ) (mine : set.BTreeSet (List ℕ)) (tasks : TasksValue) where
  -- no uuid
  pub gains_none : GainsCopy hand None mine tasks mine tasks
  gains_none = record { among = λ u. refl; has = λ none u. by u (set.contains bytes_cmp mine u) refl none }
    where
      by : (u : List ℕ) (b : Bool) → set.contains bytes_cmp mine u ≡ b → ((u : List ℕ) → set.contains bytes_cmp mine u ≡ false → get tasks u ≡ None) → get tasks u ≡ cond b (get tasks u) None
      by u true e none = refl
      by u false e none = none u e

  -- it is among them already
  pub gains_nothing : set.contains bytes_cmp mine v ≡ true → GainsCopy hand (Some v) mine tasks mine tasks
  gains_nothing is = record { among = λ u. by u (same_bytes u v) refl; has = λ none u. has u none (set.contains bytes_cmp mine u) refl }
    where
      by : (u : List ℕ) (k : Bool) → same_bytes u v ≡ k → set.contains bytes_cmp mine u ≡ cond k true (set.contains bytes_cmp mine u)
      by u true e = ap (set.contains bytes_cmp mine) (same_bytes_exact u v e) ∙ is
      by u false e = refl

      other : (u : List ℕ) (k : Bool) → same_bytes u v ≡ k → set.contains bytes_cmp mine u ≡ false → k ≡ false
      other u true e f = absurd (true≢false (sym is ∙ ap (set.contains bytes_cmp mine) (sym (same_bytes_exact u v e)) ∙ f))
      other u false e f = refl

      has : (u : List ℕ) → ((u : List ℕ) → set.contains bytes_cmp mine u ≡ false → get tasks u ≡ None) → (b : Bool) → set.contains bytes_cmp mine u ≡ b → get tasks u ≡ cond b (get tasks u) (cond (same_bytes u v) (get hand u) None)
      has u none true e = refl
      has u none false e = none u e ∙ ap (λ k. cond k (get hand u) None) (sym (other u (same_bytes u v) refl e))

  -- it is put among them, and its task is copied
  pub gains_one : set.contains bytes_cmp mine v ≡ false → (more : set.BTreeSet (List ℕ)) → ((q : List ℕ) → set.contains bytes_cmp more q ≡ cond (eq_by_cmp bytes_cmp v q) true (set.contains bytes_cmp mine q))
      → (copied : TasksValue) → (get tasks v ≡ None → copied ≡ set_at tasks v (get hand v)) → GainsCopy hand (Some v) mine tasks more copied
  gains_one new more updates copied made = record {
    among = λ u. updates u ∙ ap (λ k. cond k true (set.contains bytes_cmp mine u)) (sym (same_bytes_back u v ∙ texts_ties v u));
    has = λ none u. ap (λ (t : TasksValue). get t u) (made (none v new)) ∙ get-set_at tasks v (get hand v) u ∙ has u none (same_bytes u v) refl (set.contains bytes_cmp mine u) refl;
  }
    where
      has : (u : List ℕ) → ((u : List ℕ) → set.contains bytes_cmp mine u ≡ false → get tasks u ≡ None) → (k : Bool) → same_bytes u v ≡ k → (b : Bool) → set.contains bytes_cmp mine u ≡ b
          → cond k (get hand v) (get tasks u) ≡ cond b (get tasks u) (cond k (get hand u) None)
      has u none true e true f = absurd (true≢false (sym f ∙ ap (set.contains bytes_cmp mine) (same_bytes_exact u v e) ∙ new))
      has u none true e false f = ap (get hand) (sym (same_bytes_exact u v e))
      has u none false e true f = refl
      has u none false e false f = none u f

-- ---- one operation is taken back

module _ (hand : TasksValue) (ops : List Op) (op : Op) (old new : Walker) (copied : TasksValue) (s : IsBefore hand ops old)
    (gains : GainsCopy hand (option_map uuid_of (synced op)) old.mine old.tasks new.mine copied) (tasks : new.tasks ≡ take_back copied op) where
  was : (u : List ℕ) → set.contains bytes_cmp new.mine u ≡ false → (has_uuid u (option_map uuid_of (synced op)) ≡ false) × (set.contains bytes_cmp old.mine u ≡ false)
  was u e = either (has_uuid u (option_map uuid_of (synced op))) (set.contains bytes_cmp old.mine u) (sym (gains.among u) ∙ e)

  part_then : (u : List ℕ) → set.contains bytes_cmp new.mine u ≡ true → get copied u ≡ get (take_back_all hand ops) u
  part_then u e = gains.has s.none u ∙ by (set.contains bytes_cmp old.mine u) refl (has_uuid u (option_map uuid_of (synced op))) (sym (gains.among u) ∙ e)
    where
      by : (b : Bool) → set.contains bytes_cmp old.mine u ≡ b → (k : Bool) → cond k true (set.contains bytes_cmp old.mine u) ≡ true → cond b (get old.tasks u) (cond k (get hand u) None) ≡ get (take_back_all hand ops) u
      by true f k g = s.part u f
      by false f true g = sym (all_back_apart ops u hand (s.mine u f))
      by false f false g = absurd (true≢false (sym g ∙ f))

  none_then : (u : List ℕ) → set.contains bytes_cmp new.mine u ≡ false → get copied u ≡ None
  none_then u e =
      let w = was u e in
      gains.has s.none u ∙ ap (λ b. cond b (get old.tasks u) (cond (has_uuid u (option_map uuid_of (synced op))) (get hand u) None)) w.1 ∙ ap (λ k. cond k (get hand u) None) w.0

  pub goes_back : Tells new.there hand (take_back (take_back_all hand ops) op) → IsBefore hand (op ∷ ops) new
  goes_back there = record {
    there = there;
    part = λ u e. ap (λ (t : TasksValue). get t u) tasks ∙ back_alike op u copied (take_back_all hand ops) (part_then u e);
    none = λ u e. ap (λ (t : TasksValue). get t u) tasks ∙ back_apart op u copied (was u e).0 ∙ none_then u e;
    mine = λ u e. apart_more u (synced op) (plain ops) (was u e).0 (s.mine u (was u e).1);
  }

-- ---- the start

pub in_groups : (pending : List Op) (u : List ℕ) → AreApart u (plain pending) → AreApart u (joined (groups_of pending))
in_groups pending u a = apart_back u (parts_of pending).0 (joined (groups_of pending)) (subst (AreApart u) (groups_hold_all pending) a)

pub starts : (hand : TasksValue) (w : Walker) → Tells w.there hand hand → set.IsEmpty w.mine → w.tasks ≡ empty → IsBefore hand [] w
starts hand w tells none no_task = record {
  there = tells;
  part = λ u e. absurd (true≢false (sym e ∙ ap (λ ks. list_any (is_at (bytes_cmp u)) ks) none));
  none = λ u e. ap (λ (t : TasksValue). get t u) no_task ∙ get-empty bytes_cmp u;
  mine = λ u e. tt;
}

pub starts_there : (hand : TasksValue) (base : List ℕ) (pending : List Op) (w : Walker) → IsBefore hand pending w → w.at ≡ base → groups_in w.left.items ≡ groups_of pending → w.carried ≡ []
    → StandsAt hand (before_pending base hand pending) w
starts_there hand base pending w s at left carried = record {
  at = at;
  there = s.there;
  part = s.part;
  mine = λ u e. in_groups pending u (s.mine u e);
  left = left;
  carried = carried;
}
