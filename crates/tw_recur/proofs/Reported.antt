-- The laws of what a report leaves.
use Rattle.std.proofs.Common.{◌≡◌, ℕ, zero, suc, ◌+◌, ◌<◌, false, cond, List, [], ◌∷◌, ◌++◌, length, Option, Some, None, is_some, refl, sym, ap, subst, ◌∙◌, arith, rules, append-nil}
use Rattle.std.specs.Prelude.{nat_lt, unwrap_or, chars, codes, IsAscii, slice_index}
use Rattle.std.specs.Fmt.{decimal}
use Rattle.std.proofs.lemmas.Bool.{le-ltb}
use Rattle.std.proofs.lemmas.List.{length-append}
use Rattle.std.proofs.lemmas.Str.{chars-append, chars-IsAscii, IsAscii-append}
use Rattle.std.specs.FinMap.{get, insert, empty, entries, entries_sorted, get-entries, len-entries, len-empty}
use Rattle.tw_model.specs.Maps.{bytes_cmp, same_bytes}
use Rattle.tw_model.specs.Ops.{TaskValue, TasksValue}
use Rattle.tw_model.specs.Changes.{changed_all}
use Rattle.tw_model.specs.declared.changes.Change.{Change}
use Rattle.tw_model.proofs.Maps.{get-set_at_here, get-set_at_apart}
use Rattle.tw_urgency.specs.Stored.{moment_of, moment_at}
use Rattle.tw_urgency.specs.Status.{is_later, status_with, status_of, is_word}
use Rattle.tw_urgency.specs.declared.Status.{Status}
use Rattle.tw_urgency.specs.declared.Status.TheVariants as kinds
use Rattle.tw_recur.specs.declared.recurrence.Recurrence.{Recurrence}
use Rattle.tw_recur.specs.Recurrence.{length_of, paired, recurrence_of, mask_of, wanted}
use Rattle.tw_recur.specs.Instances.{Asked, Growth, Making, instance_uuid, mark, in_either, if_wanted, grown, with_instance, base_of, with_mask, with_growth, with_recurrence, with_parent, with_parents, made_changes, changes_in, instance_changes}
use Rattle.tw_recur.specs.Apart.{AreOthers}
use Rattle.tw_recur.specs.Reported.{MasksAreTexts, HaveGrownBelow, SecondMakesNothing, IsInstanceOf, MachinesMakeTheSame, IsMarkOf, AreMarksFrom, GrowsByMarks, EachNumberOnce}
use Rattle.tw_recur.proofs.Once.{Entries, no_task, making_apart, making_step, start_step, all_keys}
use Rattle.tw_recur.proofs.Marks.{IsHeld, AreHeld, not_none}
use Rattle.tw_recur.proofs.Done.{Each, each_found, at_found, IsAmong, IsTold, IsDone, all_done}
use Rattle.tw_recur.proofs.Made.{AreMade, all_made, none_made_yet, instance_rests}
use Rattle.tw_recur.proofs.Changed.{changed_apart, AreSet, changed_here, set_front, set_back, set_among, set_found, others_unmade}

-- ---- after a report

module _ (a : Asked) where
  abbrev making : Making
  making = with_parents a (record { made = empty; parents = [] }) (entries a.tasks)

  abbrev after : TasksValue
  after = changed_all a.tasks (changes_in making)

  sets : AreSet after (changes_in making)
  sets = changed_here (changes_in making) a.tasks (making_apart a)

  made_there : (v : List ℕ) (t : TaskValue) → get making.made v ≡ Some t → get after v ≡ Some t
  made_there v t e = set_found after (entries making.made) v t (set_front after (made_changes (entries making.made)) making.parents sets) (sym (get-entries making.made v) ∙ e)

  others_there : (v : List ℕ) → get making.made v ≡ None → AreOthers v making.parents → get after v ≡ get a.tasks v
  others_there v e o = changed_apart (changes_in making) a.tasks v (others_unmade (entries making.made) making.parents v (sym (get-entries making.made v) ∙ e) o)

  told_there : (c : Change) → IsAmong c making.parents → get after c.uuid ≡ c.task
  told_there c i = set_among after c making.parents (set_back after (made_changes (entries making.made)) making.parents sets) i

  old_unmade : (v : List ℕ) (t : TaskValue) → get a.tasks v ≡ Some t → get making.made v ≡ None
  old_unmade v t e =
      elim (get making.made v) as (λ o. get making.made v ≡ o → o ≡ None) [
        | None ↦ λ m. refl
        | Some x ↦ λ m. absurd (not_none (get a.tasks v) t e ((making_step a).new v (ap is_some m)))
      ] refl

  done_at : (u : List ℕ) (task : TaskValue) → get a.tasks u ≡ Some task → IsDone a making u task (recurrence_of task)
  done_at u task e =
      at_found (λ v t. IsDone a making v t (recurrence_of t)) (entries a.tasks) u task
      (all_done a (entries a.tasks) (record { made = empty; parents = [] }) (entries_sorted a.tasks) (all_keys a.tasks) (start_step a.tasks))
      (sym (get-entries a.tasks u) ∙ e)

-- ---- a template with a longer mask

module _ (task : TaskValue) (mask : List ℕ) (now : ℕ) where
  other_than_mask : (name : List ℕ) → same_bytes name (codes "mask") ≡ false → same_bytes name (codes "modified") ≡ false → get (with_mask task mask now) name ≡ get task name
  other_than_mask name m n =
      get-set_at_apart (insert task (codes "mask") mask) (codes "modified") (Some (decimal now)) name n ∙ get-set_at_apart task (codes "mask") (Some mask) name m

  its_mask : mask_of (with_mask task mask now) ≡ mask
  its_mask = ap (λ o. unwrap_or o []) (get-set_at_apart (insert task (codes "mask") mask) (codes "modified") (Some (decimal now)) (codes "mask") refl ∙ get-set_at_here task (codes "mask") (Some mask))

  its_recurrence : recurrence_of (with_mask task mask now) ≡ recurrence_of task
  unfolding recurrence_of moment_at
  its_recurrence =
      let is_status = other_than_mask (codes "status") refl refl in
      let is_due = other_than_mask (codes "due") refl refl in
      let is_recur = other_than_mask (codes "recur") refl refl in
      λ n. cond (is_word (codes "recurring") (is_status n)) (paired (moment_of (is_due n)) (length_of (is_recur n))) None

  its_until : moment_at (codes "until") (with_mask task mask now) ≡ moment_at (codes "until") task
  unfolding moment_at
  its_until = ap moment_of (other_than_mask (codes "until") refl refl)

  its_status : (at : ℕ) → status_of (with_mask task mask now) at ≡ status_of task at
  unfolding moment_at
  its_status at =
      let is_status = other_than_mask (codes "status") refl refl in
      let is_wait = other_than_mask (codes "wait") refl refl in
      λ n. status_with (is_status n) (is_later at (moment_of (is_wait n)))

-- ---- what becomes of a task that was there

record IsLeft (a : Asked) (u : List ℕ) (old : TaskValue) : Type 0 where
  pub more : List ℕ
  pub held : AreHeld a.tasks (making a).made a.now u (length (chars (mask_of old))) more
  pub new : TaskValue
  pub there : get (after a) u ≡ Some new
  pub mask : mask_of new ≡ mask_of old ++ more
  pub status : status_of new a.now ≡ status_of old a.now
  pub quiet : (r : Recurrence) → recurrence_of new ≡ Some r → length more < 1000 → wanted r (moment_at (codes "until") new) a.zone a.now a.limit (length (chars (mask_of old)) + length more) ≡ None

same_recurrence : (x y : Recurrence) → Some x ≡ Some y → x ≡ y
same_recurrence x y e = cc

no_recurrence : (o : Option Recurrence) (r : Recurrence) → o ≡ None → o ≡ Some r → ⊥
no_recurrence None r e f = cc
no_recurrence (Some x) r e f = cc

module _ (a : Asked) (u : List ℕ) (old : TaskValue) (was : get a.tasks u ≡ Some old) where
  left_by : (o : Option Recurrence) → recurrence_of old ≡ o → IsDone a (making a) u old o → IsLeft a u old
  left_by None e d = record {
    more = [];
    held = tt;
    new = old;
    there = others_there a u (old_unmade a u old was) d ∙ was;
    mask = sym (append-nil (mask_of old));
    status = refl;
    quiet = λ r f lt. absurd (no_recurrence (recurrence_of old) r e f);
  }
  left_by (Some r) e d = with_more d.more d.held d.ends d.told
    where
      with_more : (more : List ℕ) → AreHeld a.tasks (making a).made a.now u (length (chars (mask_of old))) more
          → (length more < 1000 → wanted r (moment_at (codes "until") old) a.zone a.now a.limit (length (chars (mask_of old)) + length more) ≡ None)
          → IsTold u old a.now more (making a).parents → IsLeft a u old
      with_more [] held ends told = record {
        more = [];
        held = tt;
        new = old;
        there = others_there a u (old_unmade a u old was) told ∙ was;
        mask = sym (append-nil (mask_of old));
        status = refl;
        quiet = λ q f lt. ap (λ x. wanted x (moment_at (codes "until") old) a.zone a.now a.limit (length (chars (mask_of old)) + 0)) (same_recurrence q r (sym f ∙ e)) ∙ ends lt;
      }
      with_more (c ∷ more) held ends told = record {
        more = c ∷ more;
        held = held;
        new = with_mask old (mask_of old ++ c ∷ more) a.now;
        there = told_there a (record { uuid = u; task = Some (with_mask old (mask_of old ++ c ∷ more) a.now) }) told;
        mask = its_mask old (mask_of old ++ c ∷ more) a.now;
        status = its_status old (mask_of old ++ c ∷ more) a.now a.now;
        quiet = λ q f lt.
            let same : q ≡ r = same_recurrence q r (sym f ∙ its_recurrence old (mask_of old ++ c ∷ more) a.now ∙ e) in
            (λ n. wanted (same n) (its_until old (mask_of old ++ c ∷ more) a.now n) a.zone a.now a.limit (length (chars (mask_of old)) + length (c ∷ more))) ∙ ends lt;
      }

  left : IsLeft a u old
  left = left_by (recurrence_of old) refl (done_at a u old was)

same_task : (x y : TaskValue) → Some x ≡ Some y → x ≡ y
same_task x y e = cc

-- ---- each number once

mark_of : (a : Asked) (u : List ℕ) (i c : ℕ) → IsHeld a.tasks (making a).made a.now u i c → IsMarkOf (after a) a.now u i c
mark_of a u i c h = by (get a.tasks (instance_uuid u i)) refl h.there
  where
    by : (o : Option TaskValue) → get a.tasks (instance_uuid u i) ≡ o → in_either o (get (making a).made (instance_uuid u i)) ≡ Some h.task → IsMarkOf (after a) a.now u i c
    by None e f = record { task = h.task; there = made_there a (instance_uuid u i) h.task f; sign = h.sign }
    by (Some t) e f =
        let l = left a (instance_uuid u i) t e in
        record { task = l.new; there = l.there; sign = h.sign ∙ ap (λ x. mark (status_of x a.now)) (sym (same_task t h.task f)) ∙ ap mark (sym l.status) }

marks_of : (a : Asked) (u : List ℕ) (i : ℕ) (cs : List ℕ) → AreHeld a.tasks (making a).made a.now u i cs → AreMarksFrom (after a) a.now u i cs
marks_of a u i [] h = tt
marks_of a u i (c ∷ cs) h = (mark_of a u i c h.0, marks_of a u (i + 1) cs h.1)

grows_by_marks : (a : Asked) (u : List ℕ) (old new : TaskValue) → get a.tasks u ≡ Some old → get (after a) u ≡ Some new → GrowsByMarks (after a) a.now u old new
grows_by_marks a u old new was is =
    let l = left a u old was in
    let same : l.new ≡ new = same_task l.new new (sym l.there ∙ is) in
    record { more = l.more; mask = ap mask_of (sym same) ∙ l.mask; marks = marks_of a u (length (chars (mask_of old))) l.more l.held }

pub each_number_once : EachNumberOnce
unfolding instance_changes
each_number_once tasks now tz limit u old new was is = grows_by_marks (record { tasks = tasks; zone = tz; now = now; limit = limit }) u old new was is

-- ---- two machines

are_made : (a : Asked) → AreMade a (making a).made
are_made a =
    all_made a (entries a.tasks) (record { made = empty; parents = [] })
    (each_found (λ u task. get a.tasks u ≡ Some task) (entries a.tasks) (entries_sorted a.tasks) (λ k t f. get-entries a.tasks k ∙ f))
    (none_made_yet a)

new_is_made : (a : Asked) (u : List ℕ) (task : TaskValue) → get a.tasks u ≡ None → get (after a) u ≡ Some task → IsInstanceOf a.tasks a.zone a.now u task
new_is_made a u task none is = by (get (making a).made u) refl
  where
    by : (o : Option TaskValue) → get (making a).made u ≡ o → IsInstanceOf a.tasks a.zone a.now u task
    by None e = absurd (not_none (get (after a) u) task is (others_there a u e (no_task a.tasks u (making a).parents none (making_step a).parents.known) ∙ none))
    by (Some t) e = subst (IsInstanceOf a.tasks a.zone a.now u) (same_task t task (sym (made_there a u t e) ∙ is)) (are_made a u t e)

pub machines_make_the_same : MachinesMakeTheSame
unfolding instance_changes
machines_make_the_same tasks now tz limit u task none is = new_is_made (record { tasks = tasks; zone = tz; now = now; limit = limit }) u task none is

-- ---- a second report

abbrev IsQuiet : Asked → List ℕ → TaskValue → Type 0
IsQuiet a u task = (r : Recurrence) → recurrence_of task ≡ Some r → wanted r (moment_at (codes "until") task) a.zone a.now a.limit (length (chars (mask_of task))) ≡ None

not_longer : (n : ℕ) → nat_lt n n ≡ false
not_longer n = le-ltb n n (omega arith)

quiet_growth : (a : Asked) (u : List ℕ) (task : TaskValue) (r : Recurrence) (n i : ℕ) (g : Growth) → wanted r (moment_at (codes "until") task) a.zone a.now a.limit i ≡ None → grown a u task r i (suc n) g ≡ g
unfolding grown
quiet_growth a u task r n i g e = ap (λ o. if_wanted o (λ at. grown a u task r (i + 1) n (with_instance a u task (base_of r a.zone) i at g)) g) e

quiet_parent : (a : Asked) (u : List ℕ) (task : TaskValue) (m : Making) → IsQuiet a u task → with_parent a u task m ≡ m
unfolding with_parent
quiet_parent a u task m q = by (recurrence_of task) q
  where
    by : (o : Option Recurrence) → ((r : Recurrence) → o ≡ Some r → wanted r (moment_at (codes "until") task) a.zone a.now a.limit (length (chars (mask_of task))) ≡ None) → with_recurrence a u task m o ≡ m
    by None q = refl
    by (Some r) q =
        ap (with_growth u task a.now m.parents) (quiet_growth a u task r 999 (length (chars (mask_of task))) (record { made = m.made; mask = mask_of task }) (q r refl))
        ∙ (λ n. record { made = m.made; parents = m.parents ++ cond (not_longer (length (mask_of task)) n) (record { uuid = u; task = Some (with_mask task (mask_of task) a.now) } ∷ []) [] })
        ∙ (λ n. record { made = m.made; parents = append-nil m.parents n })

quiet_parents : (a : Asked) (es : Entries) (m : Making) → Each (IsQuiet a) es → with_parents a m es ≡ m
quiet_parents a [] m q = refl
quiet_parents a (e ∷ es) m q = ap (λ n. with_parents a n es) (quiet_parent a e.0 e.1 m q.0) ∙ quiet_parents a es m q.1

no_entries : (es : Entries) → length es ≡ 0 → es ≡ []
no_entries [] e = refl
no_entries (x ∷ es) e = absurd (omega arith)

nothing_changes : changes_in (record { made = empty; parents = [] }) ≡ []
nothing_changes = ap (λ es. made_changes es ++ []) (no_entries (entries empty) (sym (len-entries empty) ∙ len-empty bytes_cmp TaskValue))

below_128 : (45 < 128) × (87 < 128)
below_128 = (omega arith, omega arith)

mark_small : (s : Status) → mark s < 128
mark_small kinds.Pending = below_128.0
mark_small kinds.Waiting = below_128.1
mark_small kinds.Completed = below_128.0
mark_small kinds.Deleted = below_128.0
mark_small kinds.Recurring = below_128.0
mark_small kinds.Other = below_128.0

one_ascii : (c : ℕ) → c < 128 → IsAscii (c ∷ [])
one_ascii c lt zero = lt
one_ascii c lt (suc i) = past_ascii i
  where
    past_ascii : (i : ℕ) → slice_index [] i < 128
    past_ascii zero = search rules
    past_ascii (suc i) = search rules

none_ascii : IsAscii []
none_ascii zero = search rules
none_ascii (suc i) = search rules

held_ascii : (tasks made : TasksValue) (now : ℕ) (u : List ℕ) (i : ℕ) (cs : List ℕ) → AreHeld tasks made now u i cs → IsAscii cs
held_ascii tasks made now u i [] h = none_ascii
held_ascii tasks made now u i (c ∷ cs) h =
    IsAscii-append (c ∷ []) cs (one_ascii c (subst (λ x. x < 128) (sym h.0.sign) (mark_small (status_of h.0.task now)))) (held_ascii tasks made now u (i + 1) cs h.1)

module _ (a : Asked) (texts : MasksAreTexts a.tasks) (below : HaveGrownBelow 1000 a.tasks (after a)) where
  abbrev again : Asked
  again = record { tasks = after a; zone = a.zone; now = a.now; limit = a.limit }

  old_quiet : (v : List ℕ) (old t : TaskValue) → get a.tasks v ≡ Some old → get (after a) v ≡ Some t → IsQuiet again v t
  old_quiet v old t was is r e =
      let l = left a v old was in
      let same : l.new ≡ t = same_task l.new t (sym l.there ∙ is) in
      let mask : mask_of t ≡ mask_of old ++ l.more = ap mask_of (sym same) ∙ l.mask in
      let count : length (mask_of t) ≡ length (mask_of old) + length l.more = ap length mask ∙ length-append (mask_of old) l.more in
      let number : length (chars (mask_of t)) ≡ length (chars (mask_of old)) + length l.more =
      ap (λ b. length (chars b)) mask ∙ ap length (chars-append (mask_of old) l.more (texts v old was))
      ∙ ap (λ cs. length (chars (mask_of old) ++ cs)) (chars-IsAscii l.more (held_ascii a.tasks (making a).made a.now v (length (chars (mask_of old))) l.more l.held))
      ∙ length-append (chars (mask_of old)) l.more in
      (λ n. wanted r (moment_at (codes "until") (sym same n)) a.zone a.now a.limit (number n))
      ∙ l.quiet r (ap recurrence_of same ∙ e) (omega (arith, count, below v old t was is))

  quiet_at : (v : List ℕ) (t : TaskValue) → get (after a) v ≡ Some t → IsQuiet again v t
  quiet_at v t is = by (get a.tasks v) refl
    where
      by : (o : Option TaskValue) → get a.tasks v ≡ o → IsQuiet again v t
      by None e =
          let made = new_is_made a v t e is in
          λ r f. absurd (no_recurrence (recurrence_of t) r (instance_rests made.template made.template_task a.zone a.now made.number t made.made) f)
      by (Some old) e = old_quiet v old t e is

  makes_nothing : changes_in (with_parents again (record { made = empty; parents = [] }) (entries (after a))) ≡ []
  makes_nothing =
      ap changes_in (quiet_parents again (entries (after a)) (record { made = empty; parents = [] })
      (each_found (IsQuiet again) (entries (after a)) (entries_sorted (after a)) (λ k t f. quiet_at k t (get-entries (after a) k ∙ f))))
      ∙ nothing_changes

pub second_makes_nothing : SecondMakesNothing
unfolding instance_changes
second_makes_nothing tasks now tz limit texts below = makes_nothing (record { tasks = tasks; zone = tz; now = now; limit = limit }) texts below
