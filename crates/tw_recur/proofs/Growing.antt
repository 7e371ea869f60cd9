-- Instances, one after another.
use Rattle.std.proofs.Common.{◌≡◌, ℕ, suc, ◌+◌, ◌-◌, ◌<◌, List, [], ◌∷◌, ◌++◌, cond, Option, Some, None, is_none, sym, ap, ◌∙◌, arith}
use Rattle.std.specs.FinMap.{get, insert}
use Rattle.tw_model.specs.Maps.{set_if_none}
use Rattle.tw_model.specs.Ops.{TaskValue, TasksValue}
use Rattle.tw_urgency.specs.Stored.{moment_at}
use Rattle.tw_urgency.specs.Status.{status_of}
use Rattle.std.specs.Prelude.{codes, length, chars}
use Rattle.tw_model.specs.declared.changes.Change.{Change}
use Rattle.tw_recur.specs.declared.recurrence.Recurrence.{Recurrence}
use Rattle.tw_recur.specs.Recurrence.{wanted, recurrence_of, mask_of}
use Rattle.tw_recur.specs.Instances.{Asked, Growth, Making, mask_change, with_growth, with_recurrence, with_parent, instance_uuid, instance, mark, grown_by, in_either, with_instance, base_of, if_wanted, grown}

pub later_none : (a b : Option TaskValue) → in_either a b ≡ None → b ≡ None
later_none None b e = e
later_none (Some x) b e = absurd (cc)

module _ (a : Asked) (u : List ℕ) (task : TaskValue) (base i at : ℕ) (g : Growth) (v : List ℕ) (is : v ≡ instance_uuid u i) where
  by_place : with_instance a u task base i at g ≡ grown_by (in_either (get a.tasks v) (get g.made v)) v (instance u task a.now base i at) a.now g
  unfolding with_instance
  by_place = λ n. grown_by (in_either (get a.tasks (sym is n)) (get g.made (sym is n))) (sym is n) (instance u task a.now base i at) a.now g

  pub kept : (t : TaskValue) → in_either (get a.tasks v) (get g.made v) ≡ Some t → with_instance a u task base i at g ≡ record { made = g.made; mask = g.mask ++ mark (status_of t a.now) ∷ [] }
  kept t e = by_place ∙ ap (λ o. grown_by o v (instance u task a.now base i at) a.now g) e

  pub added_new : (m : TaskValue) (made : TasksValue) → m ≡ instance u task a.now base i at → in_either (get a.tasks v) (get g.made v) ≡ None → made ≡ set_if_none g.made v m
      → with_instance a u task base i at g ≡ record { made = made; mask = g.mask ++ mark (status_of m a.now) ∷ [] }
  added_new m made is_m e is_made =
      let free : get g.made v ≡ None = later_none (get a.tasks v) (get g.made v) e in
      let inserted : made ≡ insert g.made v m = is_made ∙ ap (λ o. cond (is_none o) (insert g.made v m) g.made) free in
      by_place ∙ ap (λ o. grown_by o v (instance u task a.now base i at) a.now g) e
      ∙ (λ n. record { made = insert g.made v (sym is_m n); mask = g.mask ++ mark (status_of (sym is_m n) a.now) ∷ [] })
      ∙ (λ n. record { made = sym inserted n; mask = g.mask ++ mark (status_of m a.now) ∷ [] })

-- ---- turns

module _ (a : Asked) (u : List ℕ) (task : TaskValue) (r : Recurrence) (i : ℕ) where
  pub one_more : (k n : ℕ) (at : ℕ) (g : Growth) → k < n → wanted r (moment_at (codes "until") task) a.zone a.now a.limit i ≡ Some at
      → grown a u task r i (n - k) g ≡ grown a u task r (i + 1) (n - (k + 1)) (with_instance a u task (base_of r a.zone) i at g)
  unfolding grown
  one_more k n at g lt e =
      let left : n - k ≡ suc (n - (k + 1)) = omega arith in
      ap (λ m. grown a u task r i m g) left ∙ ap (λ o. if_wanted o (λ x. grown a u task r (i + 1) (n - (k + 1)) (with_instance a u task (base_of r a.zone) i x g)) g) e

  pub no_more : (k n : ℕ) (g : Growth) → k < n → wanted r (moment_at (codes "until") task) a.zone a.now a.limit i ≡ None → grown a u task r i (n - k) g ≡ g
  unfolding grown
  no_more k n g lt e =
      let left : n - k ≡ suc (n - (k + 1)) = omega arith in
      ap (λ m. grown a u task r i m g) left ∙ ap (λ o. if_wanted o (λ x. grown a u task r (i + 1) (n - (k + 1)) (with_instance a u task (base_of r a.zone) i x g)) g) e

  pub over : (n : ℕ) (g : Growth) → grown a u task r i (n - n) g ≡ g
  unfolding grown
  over n g = let none : n - n ≡ 0 = omega arith in ap (λ m. grown a u task r i m g) none

-- ---- a parent

module _ (a : Asked) (u : List ℕ) (task : TaskValue) (m : Making) where
  pub no_parent : recurrence_of task ≡ None → m ≡ with_parent a u task m
  unfolding with_parent
  no_parent e = sym (ap (with_recurrence a u task m) e)

  pub a_parent : (r : Recurrence) (from : ℕ) (mask : List ℕ) (g : Growth) (parents : List Change) → recurrence_of task ≡ Some r → from ≡ length (chars (mask_of task)) → mask ≡ mask_of task
      → g ≡ grown a u task r from 1000 (record { made = m.made; mask = mask }) → parents ≡ m.parents ++ mask_change u task a.now g.mask
      → record { made = g.made; parents = parents } ≡ with_parent a u task m
  unfolding with_parent
  a_parent r from mask g parents is_r is_from is_mask is_g is_parents =
      (λ n. record { made = g.made; parents = is_parents n })
      ∙ (λ n. with_growth u task a.now m.parents (is_g n))
      ∙ (λ n. with_growth u task a.now m.parents (grown a u task r (is_from n) 1000 (record { made = m.made; mask = is_mask n })))
      ∙ sym (ap (with_recurrence a u task m) is_r)
