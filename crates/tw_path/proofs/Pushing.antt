-- A version that was added is passed.
use Rattle.std.proofs.Common.{◌≡◌, ℕ, Bool, true, false, cond, List, [], ◌∷◌, ◌++◌, refl, sym, ap, subst, ◌∙◌}
use Rattle.std.specs.BTreeSet as set
use Rattle.std.specs.FinMap.{get}
use Rattle.std.specs.Global.{Vec}
use Rattle.tw_model.specs.Maps.{bytes_cmp, same_bytes}
use Rattle.tw_model.specs.Ops.{TasksValue, uuid_of, left_there, apply, apply_all}
use Rattle.tw_model.specs.declared.SyncOp.{SyncOp}
use Rattle.tw_model.proofs.Maps.{same_bytes_exact, get-set_at}
use Rattle.tw_protocol.specs.Chain.{Version}
use Rattle.tw_groups.specs.Groups.{Groups, joined}
use Rattle.tw_groups.specs.Cut.{first, rest}
use Rattle.tw_groups.specs.Held.{groups_in}
use Rattle.tw_groups.specs.Laws.{AreApart}
use Rattle.tw_groups.proofs.Cutting.{cut_splits}
use Rattle.tw_path.specs.Path.{Reached, passed, is_batch}
use Rattle.tw_path.specs.Path.Leg.{Push}
use Rattle.tw_path.specs.Presence.{Tells}
use Rattle.tw_path.specs.Walk.{StandsAt}
use Rattle.tw_path.specs.Batch.{IsFirstBatch, left_by}
use Rattle.tw_path.specs.declared.batch.Batch.{Batch}
use Rattle.tw_path.specs.declared.walker.Walker.{Walker}

-- an operation makes the same of the same task
apply_alike : (op : SyncOp) (u : List ℕ) (a b : TasksValue) → get a u ≡ get b u → get (apply a op) u ≡ get (apply b op) u
apply_alike op u a b e = get-set_at a (uuid_of op) (left_there op (get a (uuid_of op))) u ∙ by (same_bytes u (uuid_of op)) refl ∙ sym (get-set_at b (uuid_of op) (left_there op (get b (uuid_of op))) u)
  where
    by : (k : Bool) → same_bytes u (uuid_of op) ≡ k → cond k (left_there op (get a (uuid_of op))) (get a u) ≡ cond k (left_there op (get b (uuid_of op))) (get b u)
    by true is = let here : u ≡ uuid_of op = same_bytes_exact u (uuid_of op) is in ap (left_there op) (ap (get a) (sym here) ∙ e ∙ ap (get b) here)
    by false is = e

all_alike : (ops : List SyncOp) (u : List ℕ) (a b : TasksValue) → get a u ≡ get b u → get (apply_all a ops) u ≡ get (apply_all b ops) u
all_alike [] u a b e = e
all_alike (op ∷ ops) u a b e = all_alike ops u (apply a op) (apply b op) (apply_alike op u a b e)

pub apart_back : (u : List ℕ) (xs ys : List SyncOp) → AreApart u (xs ++ ys) → AreApart u ys
apart_back u [] ys a = a
apart_back u (x ∷ xs) ys a = apart_back u xs ys a.1

-- what is left of a place is left by the batch
left_is : (batch : Batch) (vs : List (Vec SyncOp)) (gs : Groups) → groups_in vs ≡ gs → IsFirstBatch batch vs → left_by batch vs ≡ rest is_batch gs
left_is batch vs gs e is = ap (λ (h : List SyncOp × Groups). h.1) (sym is) ∙ ap (rest is_batch) e

module _ (hand : TasksValue) (r : Reached) (v : Version) (ops : List SyncOp) (batch : Batch) (old new : Walker) (s : StandsAt hand r old)
    (is : IsFirstBatch batch old.left.items) where
  apart_then : (u : List ℕ) → set.contains bytes_cmp old.mine u ≡ false → AreApart u (joined (rest is_batch r.left))
  apart_then u e = apart_back u (first is_batch r.left) (joined (rest is_batch r.left)) (subst (AreApart u) (cut_splits is_batch r.left) (s.mine u e))

  pub stands_pushed : new.at ≡ v.id → new.mine ≡ old.mine → new.tasks ≡ apply_all old.tasks ops → ((tasks other : TasksValue) → Tells old.there tasks other → Tells new.there tasks (apply_all other ops))
      → groups_in new.left.items ≡ left_by batch old.left.items → new.carried ≡ old.carried → StandsAt hand (passed r (Push v ops)) new
  stands_pushed at mine tasks there left carried = record {
    at = at;
    there = there hand r.tasks s.there;
    part = λ u e. ap (λ (t : TasksValue). get t u) tasks ∙ all_alike ops u old.tasks r.tasks (s.part u (ap (λ m. set.contains bytes_cmp m u) (sym mine) ∙ e));
    mine = λ u e. apart_then u (ap (λ m. set.contains bytes_cmp m u) (sym mine) ∙ e);
    left = left ∙ left_is batch old.left.items r.left s.left is;
    carried = carried ∙ s.carried;
  }
