-- What a template's mask grows by: the character of each number from the first on, up to one that is not wanted.
use Rattle.std.proofs.Common.{◌≡◌, ℕ, zero, suc, ◌+◌, ◌<◌, true, false, List, [], ◌∷◌, ◌++◌, length, Option, Some, None, is_some, refl, sym, ap, ◌∙◌, arith, append-nil, append_assoc}
use Rattle.std.specs.Prelude.{⊤, codes}
use Rattle.std.specs.FinMap.{get, insert}
use Rattle.tw_model.specs.Maps.{same_bytes}
use Rattle.tw_model.specs.Ops.{TaskValue, TasksValue}
use Rattle.tw_model.proofs.Maps.{same_bytes_exact, get-set_at_here, get-set_at_apart}
use Rattle.tw_urgency.specs.Stored.{moment_at}
use Rattle.tw_urgency.specs.Status.{status_of}
use Rattle.tw_recur.specs.declared.recurrence.Recurrence.{Recurrence}
use Rattle.tw_recur.specs.Recurrence.{wanted}
use Rattle.tw_recur.specs.Instances.{Asked, Growth, instance, instance_uuid, mark, grown_by, in_either, with_instance, base_of, if_wanted, grown}
use Rattle.tw_recur.proofs.Growing.{later_none}
use Rattle.tw_recur.proofs.Once.{earlier_none}

-- a character is that of instance i of a template, which is there before or since
pub record IsHeld (tasks made : TasksValue) (now : ℕ) (u : List ℕ) (i c : ℕ) : Type 0 where
  pub task : TaskValue
  pub there : in_either (get tasks (instance_uuid u i)) (get made (instance_uuid u i)) ≡ Some task
  pub sign : c ≡ mark (status_of task now)

abbrev pub AreHeld : (tasks made : TasksValue) → ℕ → List ℕ → ℕ → List ℕ → Type 0
AreHeld tasks made now u i [] = ⊤
AreHeld tasks made now u i (c ∷ cs) = IsHeld tasks made now u i c × AreHeld tasks made now u (i + 1) cs

-- what is made stays
abbrev pub Keeps : TasksValue → TasksValue → Type 0
Keeps m n = (v : List ℕ) (t : TaskValue) → get m v ≡ Some t → get n v ≡ Some t

still_either : (a b c : Option TaskValue) (t : TaskValue) → (b ≡ Some t → c ≡ Some t) → in_either a b ≡ Some t → in_either a c ≡ Some t
still_either None b c t k e = k e
still_either (Some x) b c t k e = e

held_on : (tasks m n : TasksValue) (now : ℕ) (u : List ℕ) (i c : ℕ) → Keeps m n → IsHeld tasks m now u i c → IsHeld tasks n now u i c
held_on tasks m n now u i c k h = record {
  task = h.task;
  there = still_either (get tasks (instance_uuid u i)) (get m (instance_uuid u i)) (get n (instance_uuid u i)) h.task (k (instance_uuid u i) h.task) h.there;
  sign = h.sign;
}

pub are_held_on : (tasks m n : TasksValue) (now : ℕ) (u : List ℕ) (i : ℕ) (cs : List ℕ) → Keeps m n → AreHeld tasks m now u i cs → AreHeld tasks n now u i cs
are_held_on tasks m n now u i [] k h = tt
are_held_on tasks m n now u i (c ∷ cs) k h = (held_on tasks m n now u i c k h.0, are_held_on tasks m n now u (i + 1) cs k h.1)

pub not_none : (o : Option TaskValue) (t : TaskValue) → o ≡ Some t → o ≡ None → ⊥
not_none o t e n =
    let some : is_some o ≡ true = ap is_some e in
    let none : is_some o ≡ false = ap is_some n in
    cc

keep_other : (m : TasksValue) (v : List ℕ) (x : TaskValue) (w : List ℕ) (t : TaskValue) → get m v ≡ None → get m w ≡ Some t → get (insert m v x) w ≡ Some t
keep_other m v x w t none h =
    elim (same_bytes w v) as (λ b. same_bytes w v ≡ b → get (insert m v x) w ≡ Some t) [
      | true ↦ λ e. absurd (not_none (get m w) t h (ap (get m) (same_bytes_exact w v e) ∙ none))
      | false ↦ λ e. get-set_at_apart m v (Some x) w e ∙ h
    ] refl

-- one more instance
record IsOneMore (a : Asked) (u : List ℕ) (i : ℕ) (g h : Growth) : Type 0 where
  pub sign : ℕ
  pub mask : h.mask ≡ g.mask ++ sign ∷ []
  pub held : IsHeld a.tasks h.made a.now u i sign
  pub kept : Keeps g.made h.made

one_by : (a : Asked) (u : List ℕ) (i : ℕ) (new : TaskValue) (g : Growth) (o : Option TaskValue) → in_either (get a.tasks (instance_uuid u i)) (get g.made (instance_uuid u i)) ≡ o
    → IsOneMore a u i g (grown_by o (instance_uuid u i) new a.now g)
one_by a u i new g (Some there) e = record { sign = mark (status_of there a.now); mask = refl; held = record { task = there; there = e; sign = refl }; kept = λ v t h. h }
one_by a u i new g None e =
    let v : List ℕ = instance_uuid u i in
    record {
      sign = mark (status_of new a.now);
      mask = refl;
      held = record {
        task = new;
        there = ap (λ o. in_either o (get (insert g.made v new) v)) (earlier_none (get a.tasks v) (get g.made v) e) ∙ get-set_at_here g.made v (Some new);
        sign = refl;
      };
      kept = λ w t h. keep_other g.made v new w t (later_none (get a.tasks v) (get g.made v) e) h;
    }

one_more : (a : Asked) (u : List ℕ) (task : TaskValue) (base i at : ℕ) (g : Growth) → IsOneMore a u i g (with_instance a u task base i at g)
unfolding with_instance
one_more a u task base i at g = one_by a u i (instance u task a.now base i at) g (in_either (get a.tasks (instance_uuid u i)) (get g.made (instance_uuid u i))) refl

-- so many instances at most
pub record IsGrowth (a : Asked) (u : List ℕ) (task : TaskValue) (r : Recurrence) (i n : ℕ) (g h : Growth) : Type 0 where
  pub more : List ℕ
  pub mask : h.mask ≡ g.mask ++ more
  pub held : AreHeld a.tasks h.made a.now u i more
  pub ends : length more < n → wanted r (moment_at (codes "until") task) a.zone a.now a.limit (i + length more) ≡ None
  pub kept : Keeps g.made h.made

less_before : (k n : ℕ) → suc k < suc n → k < n
less_before k n lt = omega arith

module _ (a : Asked) (u : List ℕ) (task : TaskValue) (r : Recurrence) where
  none_grows : (i n : ℕ) (g : Growth) → (0 < n → wanted r (moment_at (codes "until") task) a.zone a.now a.limit i ≡ None) → IsGrowth a u task r i n g g
  none_grows i n g e =
      let here : i + 0 ≡ i = omega arith in
      record { more = []; mask = sym (append-nil g.mask); held = tt; ends = λ lt. ap (wanted r (moment_at (codes "until") task) a.zone a.now a.limit) here ∙ e lt; kept = λ v t h. h }

  one_grows : (i n : ℕ) (g m h : Growth) → IsOneMore a u i g m → IsGrowth a u task r (i + 1) n m h → IsGrowth a u task r i (suc n) g h
  one_grows i n g m h s rest =
      let up : i + suc (length rest.more) ≡ i + 1 + length rest.more = omega arith in
      record {
        more = s.sign ∷ rest.more;
        mask = rest.mask ∙ ap (λ k. k ++ rest.more) s.mask ∙ append_assoc g.mask (s.sign ∷ []) rest.more;
        held = (held_on a.tasks m.made h.made a.now u i s.sign rest.kept s.held, rest.held);
        ends = λ lt. ap (wanted r (moment_at (codes "until") task) a.zone a.now a.limit) up ∙ rest.ends (less_before (length rest.more) n lt);
        kept = λ v t k. rest.kept v t (s.kept v t k);
      }

  pub grown_is : (n i : ℕ) (g : Growth) → IsGrowth a u task r i n g (grown a u task r i n g)
  unfolding grown
  grown_is zero i g = none_grows i 0 g (λ lt. absurd (omega (arith, lt)))
  grown_is (suc n) i g =
      let next : ℕ → Growth = λ at. grown a u task r (i + 1) n (with_instance a u task (base_of r a.zone) i at g) in
      elim (wanted r (moment_at (codes "until") task) a.zone a.now a.limit i) as (λ o. wanted r (moment_at (codes "until") task) a.zone a.now a.limit i ≡ o → IsGrowth a u task r i (suc n) g (if_wanted o next g)) [
        | None ↦ λ e. none_grows i (suc n) g (λ lt. e)
        | Some at ↦ λ e. one_grows i n g (with_instance a u task (base_of r a.zone) i at g) (next at) (one_more a u task (base_of r a.zone) i at g)
            (grown_is n (i + 1) (with_instance a u task (base_of r a.zone) i at g))
      ] refl
