-- A version is passed operation by operation.
use Rattle.std.proofs.Common.{◌≡◌, ℕ, ◌+◌, Bool, true, false, cond, List, [], ◌∷◌, ◌++◌, refl, sym, ap, subst, ◌∙◌}
use Rattle.std.proofs.lemmas.List.{append-nil, append_assoc}
use Rattle.std.proofs.lemmas.Bool.{true≢false}
use Rattle.std.specs.BTreeSet as set
use Rattle.std.specs.FinMap.{get}
use Rattle.tw_model.specs.Maps.{bytes_cmp, same_bytes}
use Rattle.tw_model.specs.Ops.{TasksValue, uuid_of, left_there, fits, apply, apply_all, fit_part}
use Rattle.tw_model.specs.declared.SyncOp.{SyncOp}
use Rattle.tw_model.proofs.Maps.{same_bytes_exact, get-set_at, get-set_at_apart}
use Rattle.tw_model.proofs.Ops.{apply_unfit}
use Rattle.tw_transform.specs.Grid.{put_if, carry}
use Rattle.tw_transform.specs.Table.{table}
use Rattle.tw_groups.specs.Groups.{Groups, joined}
use Rattle.tw_groups.specs.Cross.{cross}
use Rattle.tw_groups.specs.Held.{groups_in}
use Rattle.tw_groups.specs.Laws.{AreApart}
use Rattle.tw_groups.proofs.Grouping.{cross_is_grid, cross_appends, cross_apart}
use Rattle.tw_groups.proofs.Holding.{cross_none}
use Rattle.tw_path.specs.Path.{Reached, passed}
use Rattle.tw_path.specs.Over.{over, over_all, arrived, PullIsOver}
use Rattle.tw_path.specs.Presence.{Tells}
use Rattle.tw_path.specs.Walk.{StandsAt, IsCarriedAlone, IsCrossed}
use Rattle.tw_path.specs.declared.walker.Walker.{Walker}
use Rattle.tw_path.proofs.Presences.{fit_cons}

-- ---- all operations

abbrev whole : Reached → List SyncOp → Reached
whole r ops = let crossed = cross (fit_part r.tasks ops) r.left in record { at = r.at; tasks = apply_all r.tasks ops; left = crossed.1; carried = r.carried ++ crossed.0 }

over_is : (r : Reached) (ops : List SyncOp) → over_all r ops ≡ whole r ops
over_is r [] =
    let none = cross_none r.left in
    λ i. record { at = r.at; tasks = r.tasks; left = (sym none i).1; carried = (sym (append-nil r.carried) ∙ ap (λ (h : List SyncOp × Groups). r.carried ++ h.0) (sym none)) i }
over_is r (op ∷ ops) =
    let one = cross (fit_part r.tasks (op ∷ [])) r.left in
    let two = cross (fit_part (apply r.tasks op) ops) one.1 in
    let all : cross (fit_part r.tasks (op ∷ ops)) r.left ≡ (one.0 ++ two.0, two.1) = ap (λ ss. cross ss r.left) (fit_cons r.tasks op ops) ∙ cross_appends (fit_part r.tasks (op ∷ [])) (fit_part (apply r.tasks op) ops) r.left in
    over_is (over r op) ops
    ∙ (λ i. record {
      at = r.at;
      tasks = apply_all (apply r.tasks op) ops;
      left = (sym all i).1;
      carried = (append_assoc r.carried one.0 two.0 ∙ ap (λ (h : List SyncOp × Groups). r.carried ++ h.0) (sym all)) i;
    })

pub pull_is_over : PullIsOver
pull_is_over r v ops = ap (arrived v.id) (over_is r ops)

-- ---- one operation that does not fit

unfit_part : (t : TasksValue) (op : SyncOp) → fits t op ≡ false → fit_part t (op ∷ []) ≡ []
unfit_part t op e = ap (λ b. cond b (op ∷ []) []) e

fit_whole : (t : TasksValue) (op : SyncOp) → fits t op ≡ true → fit_part t (op ∷ []) ≡ op ∷ []
fit_whole t op e = ap (λ b. cond b (op ∷ []) []) e

pub over_unfit : (r : Reached) (op : SyncOp) → fits r.tasks op ≡ false → over r op ≡ r
over_unfit r op e =
    let none : cross (fit_part r.tasks (op ∷ [])) r.left ≡ ([], r.left) = ap (λ ss. cross ss r.left) (unfit_part r.tasks op e) ∙ cross_none r.left in
    λ i. record {
      at = r.at;
      tasks = apply_unfit r.tasks op e i;
      left = (none i).1;
      carried = (ap (λ (h : List SyncOp × Groups). r.carried ++ h.0) none ∙ append-nil r.carried) i;
    }

-- ---- one that fits

-- what is left is about no more tasks
apart_if : (b : Bool) (u : List ℕ) (l : SyncOp) (ls : List SyncOp) → same_bytes u (uuid_of l) ≡ false → AreApart u ls → AreApart u (put_if b l ls)
apart_if true u l ls e a = (e, a)
apart_if false u l ls e a = a

apart_carried : (u : List ℕ) (s : SyncOp) (ls : List SyncOp) → AreApart u ls → AreApart u (carry s ls).1
apart_carried u s [] a = tt
apart_carried u s (l ∷ ls) a = apart_if (table s l).local u l (cond (table s l).server (carry s ls) (false, ls)).1 a.0 (by (table s l).server (apart_carried u s ls a.1))
  where
    by : (b : Bool) → AreApart u (carry s ls).1 → AreApart u (cond {A = Bool × List SyncOp} b (carry s ls) (false, ls)).1
    by true c = c
    by false c = a.1

apart_crossed : (u : List ℕ) (op : SyncOp) (gs : Groups) → AreApart u (joined gs) → AreApart u (joined (cross (op ∷ []) gs).1)
apart_crossed u op gs a = subst (AreApart u) (sym (cross_is_grid (op ∷ []) gs).1) (apart_carried u op (joined gs) a)

-- a task of another uuid
other_task : (t : TasksValue) (op : SyncOp) (u : List ℕ) → same_bytes u (uuid_of op) ≡ false → get (apply t op) u ≡ get t u
other_task t op u e = get-set_at_apart t (uuid_of op) (left_there op (get t (uuid_of op))) u e

-- uuids of which one is in a set and one is not differ
differ : (mine : _) (u v : List ℕ) → set.contains bytes_cmp mine u ≡ true → set.contains bytes_cmp mine v ≡ false → same_bytes u v ≡ false
differ mine u v e f = by (same_bytes u v) refl
  where
    by : (b : Bool) → same_bytes u v ≡ b → b ≡ false
    by true same = absurd (true≢false (sym e ∙ ap (λ x. set.contains bytes_cmp mine x) (same_bytes_exact u v same) ∙ f))
    by false same = refl

-- two databases with the same task of a uuid, after an operation
pub same_task_after : (a b : TasksValue) (op : SyncOp) (u : List ℕ) → get a u ≡ get b u → get a (uuid_of op) ≡ get b (uuid_of op) → get (apply a op) u ≡ get (apply b op) u
same_task_after a b op u e f =
    get-set_at a (uuid_of op) (left_there op (get a (uuid_of op))) u
    ∙ (λ i. cond (same_bytes u (uuid_of op)) (left_there op (f i)) (e i))
    ∙ sym (get-set_at b (uuid_of op) (left_there op (get b (uuid_of op))) u)

module _ (hand : TasksValue) (r : Reached) (old new : Walker) (op : SyncOp) (s : StandsAt hand r old) (fit : fits r.tasks op ≡ true)
    (at : new.at ≡ old.at) (mine : new.mine ≡ old.mine) (there : Tells new.there hand (apply r.tasks op)) where
  crossed_is : cross (fit_part r.tasks (op ∷ [])) r.left ≡ cross (op ∷ []) r.left
  crossed_is = ap (λ ss. cross ss r.left) (fit_whole r.tasks op fit)

  mine_then : (u : List ℕ) → set.contains bytes_cmp new.mine u ≡ false → AreApart u (joined (over r op).left)
  mine_then u e =
      subst (λ (h : List SyncOp × Groups). AreApart u (joined h.1)) (sym crossed_is)
      (apart_crossed u op r.left (s.mine u (ap (λ m. set.contains bytes_cmp m u) (sym mine) ∙ e)))

  -- it is about a task of pending
  pub stands_met : set.contains bytes_cmp old.mine (uuid_of op) ≡ true → new.tasks ≡ apply old.tasks op → groups_in new.left.items ≡ (cross (op ∷ []) (groups_in old.left.items)).1
      → new.carried ≡ old.carried ++ (cross (op ∷ []) (groups_in old.left.items)).0 → StandsAt hand (over r op) new
  stands_met is tasks left carried = record {
    at = at ∙ s.at;
    there = there;
    part = λ u e.
        let has : set.contains bytes_cmp old.mine u ≡ true = ap (λ m. set.contains bytes_cmp m u) (sym mine) ∙ e in
        ap (λ (t : TasksValue). get t u) tasks ∙ same_task_after old.tasks r.tasks op u (s.part u has) (s.part (uuid_of op) is);
    mine = mine_then;
    left = left ∙ ap (λ gs. (cross (op ∷ []) gs).1) s.left ∙ ap (λ (h : List SyncOp × Groups). h.1) (sym crossed_is);
    carried = carried ∙ (λ i. s.carried i ++ (cross (op ∷ []) (s.left i)).0) ∙ ap (λ (h : List SyncOp × Groups). r.carried ++ h.0) (sym crossed_is);
  }

  -- it is about another
  pub stands_apart : set.contains bytes_cmp old.mine (uuid_of op) ≡ false → new.tasks ≡ old.tasks → new.left ≡ old.left → new.carried ≡ old.carried ++ op ∷ [] → StandsAt hand (over r op) new
  stands_apart is tasks left carried =
      let none : cross (op ∷ []) r.left ≡ (op ∷ [], r.left) = cross_apart op r.left (s.mine (uuid_of op) is) in
      record {
        at = at ∙ s.at;
        there = there;
        part = λ u e.
            let has : set.contains bytes_cmp old.mine u ≡ true = ap (λ m. set.contains bytes_cmp m u) (sym mine) ∙ e in
            ap (λ (t : TasksValue). get t u) tasks ∙ s.part u has ∙ sym (other_task r.tasks op u (differ old.mine u (uuid_of op) has is));
        mine = mine_then;
        left = ap (λ l. groups_in l.items) left ∙ s.left ∙ ap (λ (h : List SyncOp × Groups). h.1) (sym (crossed_is ∙ none));
        carried = carried ∙ ap (λ zs. zs ++ op ∷ []) s.carried ∙ ap (λ (h : List SyncOp × Groups). r.carried ++ h.0) (sym (crossed_is ∙ none));
      }

  -- whichever it is
  pub stands_over : (set.contains bytes_cmp old.mine (uuid_of op) ≡ false → IsCarriedAlone op old new) → (set.contains bytes_cmp old.mine (uuid_of op) ≡ true → IsCrossed op old new) → StandsAt hand (over r op) new
  stands_over apart met = by (set.contains bytes_cmp old.mine (uuid_of op)) refl
    where
      by : (b : Bool) → set.contains bytes_cmp old.mine (uuid_of op) ≡ b → StandsAt hand (over r op) new
      by true e = let m : IsCrossed op old new = met e in stands_met e m.0 m.1 m.2
      by false e = let a : IsCarriedAlone op old new = apart e in stands_apart e a.0 a.1 a.2
