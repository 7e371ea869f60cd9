-- What is made is an instance of a template.
use Rattle.std.proofs.Common.{◌≡◌, ℕ, zero, suc, ◌+◌, Bool, true, false, cond, List, [], ◌∷◌, Option, Some, None, refl, sym, ap, ◌∙◌}
use Rattle.std.specs.Prelude.{option_and_then, option_map, nat_le, nat_lt, ◌-◌, ◌^◌, ◌&&◌, length, chars, codes}
use Rattle.std.specs.Fmt.{decimal}
use Rattle.std.specs.FinMap.{get, insert, remove, empty, get-empty}
use Rattle.uuid.specs.Text.{hyphenated_text, lower}
use Rattle.tw_time.specs.Moments.{TimeZone}
use Rattle.tw_model.specs.Maps.{bytes_cmp, same_bytes}
use Rattle.tw_model.specs.Ops.{TaskValue, TasksValue}
use Rattle.tw_model.proofs.Maps.{same_bytes_exact, get-set_at_here, get-set_at_apart}
use Rattle.tw_urgency.specs.Stored.{moment_at}
use Rattle.tw_urgency.specs.Status.{is_word}
use Rattle.tw_recur.specs.declared.recurrence.Recurrence.{Recurrence}
use Rattle.tw_recur.specs.Recurrence.{length_of, paired, recurrence_of, mask_of, due_of, are_due, up_to, wanted}
use Rattle.tw_recur.specs.Instances.{Asked, Growth, Making, instance_uuid, moved, moved_in, with_moved, instance, grown_by, in_either, with_instance, base_of, if_wanted, grown, with_recurrence, with_parent, with_parents}
use Rattle.tw_recur.specs.Reported.{instance_of, IsInstanceOf}
use Rattle.tw_recur.proofs.Once.{Entries}
use Rattle.tw_recur.proofs.Marks.{not_none}
use Rattle.tw_recur.proofs.Done.{Each}

abbrev pub AreMade : Asked → TasksValue → Type 0
AreMade a made = (v : List ℕ) (t : TaskValue) → get made v ≡ Some t → IsInstanceOf a.tasks a.zone a.now v t

cond_tells : (b : Bool) (o : Option ℕ) (at : ℕ) → cond b o None ≡ Some at → o ≡ Some at
cond_tells true o at e = e
cond_tells false o at e = absurd (cc)

up_to_tells : (until d : Option ℕ) (at : ℕ) → up_to until d ≡ Some at → d ≡ Some at
up_to_tells until None at e = absurd (cc)
up_to_tells None (Some x) at e = e
up_to_tells (Some until) (Some x) at e = cond_tells (nat_le x until) (Some x) at e

due_tells : (r : Recurrence) (until : Option ℕ) (tz : TimeZone) (now limit i at : ℕ) → wanted r until tz now limit i ≡ Some at → due_of r tz i ≡ Some at
unfolding wanted
due_tells r until tz now limit i at e =
    up_to_tells until (due_of r tz i) at (cond_tells (nat_lt i (2 ^ 32) && are_due r tz now (i + 1 - limit)) (up_to until (due_of r tz i)) at e)

made_same : (x y : TaskValue) → Some x ≡ Some y → Some y ≡ Some x
made_same x y e = sym e

module _ (a : Asked) (u : List ℕ) (task : TaskValue) (r : Recurrence) (there : get a.tasks u ≡ Some task) (is_r : recurrence_of task ≡ Some r) where
  is_instance : (i at : ℕ) → due_of r a.zone i ≡ Some at → Some (instance u task a.now (base_of r a.zone) i at) ≡ instance_of u task a.zone a.now i
  is_instance i at due = sym (
      ap (option_and_then (λ (q : Recurrence). option_map (λ (x : ℕ). instance u task a.now (base_of q a.zone) i x) (due_of q a.zone i))) is_r
      ∙ ap (option_map (λ (x : ℕ). instance u task a.now (base_of r a.zone) i x)) due)

  made_by : (i at : ℕ) (g : Growth) (o : Option TaskValue) → due_of r a.zone i ≡ Some at → AreMade a g.made
      → AreMade a (grown_by o (instance_uuid u i) (instance u task a.now (base_of r a.zone) i at) a.now g).made
  made_by i at g (Some x) due m = m
  made_by i at g None due m = λ v t h.
      elim (same_bytes v (instance_uuid u i)) as (λ b. same_bytes v (instance_uuid u i) ≡ b → IsInstanceOf a.tasks a.zone a.now v t) [
        | true ↦ λ e. record {
          template = u;
          template_task = task;
          number = i;
          there = there;
          uuid = same_bytes_exact v (instance_uuid u i) e;
          made = made_same (instance u task a.now (base_of r a.zone) i at) t (sym (get-set_at_here g.made (instance_uuid u i) (Some (instance u task a.now (base_of r a.zone) i at)))
              ∙ ap (get (insert g.made (instance_uuid u i) (instance u task a.now (base_of r a.zone) i at))) (sym (same_bytes_exact v (instance_uuid u i) e)) ∙ h) ∙ is_instance i at due;
        }
        | false ↦ λ e. m v t (sym (get-set_at_apart g.made (instance_uuid u i) (Some (instance u task a.now (base_of r a.zone) i at)) v e) ∙ h)
      ] refl

  one_made : (i at : ℕ) (g : Growth) → due_of r a.zone i ≡ Some at → AreMade a g.made → AreMade a (with_instance a u task (base_of r a.zone) i at g).made
  unfolding with_instance
  one_made i at g due m = made_by i at g (in_either (get a.tasks (instance_uuid u i)) (get g.made (instance_uuid u i))) due m

  grown_made : (n i : ℕ) (g : Growth) → AreMade a g.made → AreMade a (grown a u task r i n g).made
  unfolding grown
  grown_made zero i g m = m
  grown_made (suc n) i g m =
      let next : ℕ → Growth = λ at. grown a u task r (i + 1) n (with_instance a u task (base_of r a.zone) i at g) in
      elim (wanted r (moment_at (codes "until") task) a.zone a.now a.limit i) as (λ o. wanted r (moment_at (codes "until") task) a.zone a.now a.limit i ≡ o → AreMade a (if_wanted o next g).made) [
        | None ↦ λ e. m
        | Some at ↦ λ e. grown_made n (i + 1) (with_instance a u task (base_of r a.zone) i at g)
            (one_made i at g (due_tells r (moment_at (codes "until") task) a.zone a.now a.limit i at e) m)
      ] refl

parent_made : (a : Asked) (u : List ℕ) (task : TaskValue) (m : Making) → get a.tasks u ≡ Some task → AreMade a m.made → AreMade a (with_parent a u task m).made
unfolding with_parent
parent_made a u task m there made =
    elim (recurrence_of task) as (λ o. recurrence_of task ≡ o → AreMade a (with_recurrence a u task m o).made) [
      | None ↦ λ e. made
      | Some r ↦ λ e. grown_made a u task r there e 1000 (length (chars (mask_of task))) (record { made = m.made; mask = mask_of task }) made
    ] refl

pub all_made : (a : Asked) (es : Entries) (m : Making) → Each (λ u task. get a.tasks u ≡ Some task) es → AreMade a m.made → AreMade a (with_parents a m es).made
all_made a [] m each made = made
all_made a (e ∷ es) m each made = all_made a es (with_parent a e.0 e.1 m) each.1 (parent_made a e.0 e.1 m each.0 made)

pub none_made_yet : (a : Asked) → AreMade a empty
none_made_yet a v t h = absurd (not_none (get {X = TaskValue} {R = bytes_cmp} empty v) t h (get-empty bytes_cmp v))

-- ---- an instance is no template

status_moved : (base at : ℕ) (name : List ℕ) (m : TaskValue) → same_bytes (codes "status") name ≡ false → get (moved_in base at name m) (codes "status") ≡ get m (codes "status")
status_moved base at name m e = by (moment_at name m)
  where
    by : (o : Option ℕ) → get (with_moved base at name m o) (codes "status") ≡ get m (codes "status")
    by None = refl
    by (Some was) = get-set_at_apart m name (option_map decimal (moved base at was)) (codes "status") e

instance_pending : (u : List ℕ) (task : TaskValue) (now base i at : ℕ) → get (instance u task now base i at) (codes "status") ≡ Some (codes "pending")
unfolding instance
instance_pending u task now base i at =
    let m1 : TaskValue = insert (remove task (codes "mask")) (codes "status") (codes "pending") in
    let m2 : TaskValue = insert m1 (codes "entry") (decimal now) in
    let m3 : TaskValue = insert m2 (codes "modified") (decimal now) in
    let m4 : TaskValue = insert m3 (codes "due") (decimal at) in
    let m5 : TaskValue = insert m4 (codes "imask") (decimal i) in
    let m6 : TaskValue = insert m5 (codes "parent") (hyphenated_text lower u) in
    status_moved base at (codes "scheduled") (moved_in base at (codes "wait") m6) refl
    ∙ status_moved base at (codes "wait") m6 refl
    ∙ get-set_at_apart m5 (codes "parent") (Some (hyphenated_text lower u)) (codes "status") refl
    ∙ get-set_at_apart m4 (codes "imask") (Some (decimal i)) (codes "status") refl
    ∙ get-set_at_apart m3 (codes "due") (Some (decimal at)) (codes "status") refl
    ∙ get-set_at_apart m2 (codes "modified") (Some (decimal now)) (codes "status") refl
    ∙ get-set_at_apart m1 (codes "entry") (Some (decimal now)) (codes "status") refl
    ∙ get-set_at_here (remove task (codes "mask")) (codes "status") (Some (codes "pending"))

pending_rests : (t : TaskValue) → get t (codes "status") ≡ Some (codes "pending") → recurrence_of t ≡ None
unfolding recurrence_of
pending_rests t e = ap (λ s. cond (is_word (codes "recurring") s) (paired (moment_at (codes "due") t) (length_of (get t (codes "recur")))) None) e

same_task : (x y : TaskValue) → Some x ≡ Some y → x ≡ y
same_task x y e = cc

pub instance_rests : (u : List ℕ) (task : TaskValue) (tz : TimeZone) (now i : ℕ) (t : TaskValue) → Some t ≡ instance_of u task tz now i → recurrence_of t ≡ None
instance_rests u task tz now i t e = by (recurrence_of task) e
  where
    by_due : (r : Recurrence) (d : Option ℕ) → Some t ≡ option_map (λ (at : ℕ). instance u task now (base_of r tz) i at) d → recurrence_of t ≡ None
    by_due r None e = absurd (cc)
    by_due r (Some at) e =
        ap recurrence_of (same_task t (instance u task now (base_of r tz) i at) e) ∙ pending_rests (instance u task now (base_of r tz) i at) (instance_pending u task now (base_of r tz) i at)

    by : (o : Option Recurrence) → Some t ≡ option_and_then (λ (r : Recurrence). option_map (λ (at : ℕ). instance u task now (base_of r tz) i at) (due_of r tz i)) o → recurrence_of t ≡ None
    by None e = absurd (cc)
    by (Some r) e = by_due r (due_of r tz i) e
