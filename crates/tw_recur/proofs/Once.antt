-- Each uuid stands once in the changes of all instances.
use Rattle.std.proofs.Common.{◌≡◌, ℕ, zero, suc, ◌+◌, true, false, cond, List, [], ◌∷◌, ◌++◌, T, Option, Some, None, is_some, refl, sym, ap, subst, ◌∙◌, append-nil}
use Rattle.std.specs.Prelude.{⊤, nat_lt, length, chars, codes}
use Rattle.std.specs.Ordering.{is_lt, is_eq, eq_by_cmp}
use Rattle.std.specs.Cmp.Lexicographic.{texts_ties}
use Rattle.std.specs.FinMap.{get, empty, entries, find, is_sorted, entries_sorted, get-entries, get-empty}
use Rattle.std.specs.FinMap.Entries.{below_all}
use Rattle.tw_model.specs.Maps.{bytes_cmp, same_bytes}
use Rattle.tw_model.specs.Ops.{TaskValue, TasksValue}
use Rattle.tw_model.specs.declared.changes.Change.{Change}
use Rattle.tw_model.proofs.Maps.{same_bytes_exact, same_bytes_itself, same_bytes_back, get-set_at_apart}
use Rattle.tw_model.proofs.Sorted.{first, second, less}
use Rattle.tw_urgency.specs.Stored.{moment_at}
use Rattle.tw_recur.specs.declared.recurrence.Recurrence.{Recurrence}
use Rattle.tw_recur.specs.Recurrence.{wanted, recurrence_of, mask_of}
use Rattle.tw_recur.specs.Instances.{Asked, Growth, Making, instance, instance_uuid, grown_by, in_either, with_instance, base_of, if_wanted, grown, with_mask, mask_change, with_recurrence, with_parent, with_parents, made_changes, changes_in, instance_changes, instances_of}
use Rattle.tw_recur.specs.Apart.{AreOthers, AreApart, InstancesAreApart, InstancesAreChanges}
use Rattle.tw_recur.proofs.Apart.{each_is_all}

abbrev pub Entries : Type 0
Entries = List (List ℕ × TaskValue)

-- ---- what is made is no task yet

abbrev pub IsNew : TasksValue → TasksValue → Type 0
IsNew tasks made = (u : List ℕ) → is_some (get made u) ≡ true → get tasks u ≡ None

pub earlier_none : (a b : Option TaskValue) → in_either a b ≡ None → a ≡ None
earlier_none None b e = refl
earlier_none (Some x) b e = absurd (cc)

grown_new : (tasks : TasksValue) (o : Option TaskValue) (v : List ℕ) (task : TaskValue) (now : ℕ) (g : Growth) → in_either (get tasks v) (get g.made v) ≡ o → IsNew tasks g.made → IsNew tasks (grown_by o v task now g).made
grown_new tasks (Some there) v task now g e n = n
grown_new tasks None v task now g e n = λ u is.
    elim (same_bytes u v) as (λ b. same_bytes u v ≡ b → get tasks u ≡ None) [
      | true ↦ λ t. ap (get tasks) (same_bytes_exact u v t) ∙ earlier_none (get tasks v) (get g.made v) e
      | false ↦ λ t. n u (ap is_some (sym (get-set_at_apart g.made v (Some task) u t)) ∙ is)
    ] refl

module _ (a : Asked) (u : List ℕ) (task : TaskValue) where
  instance_new : (base i at : ℕ) (g : Growth) → IsNew a.tasks g.made → IsNew a.tasks (with_instance a u task base i at g).made
  unfolding with_instance
  instance_new base i at g n = grown_new a.tasks _ (instance_uuid u i) (instance u task a.now base i at) a.now g refl n

  all_new : (r : Recurrence) (more i : ℕ) (g : Growth) → IsNew a.tasks g.made → IsNew a.tasks (grown a u task r i more g).made
  unfolding grown
  all_new r zero i g n = n
  all_new r (suc more) i g n =
      let next : ℕ → Growth = λ at. grown a u task r (i + 1) more (with_instance a u task (base_of r a.zone) i at g) in
      elim (wanted r (moment_at (codes "until") task) a.zone a.now a.limit i) as (λ o. IsNew a.tasks (if_wanted o next g).made) [
        | None ↦ n
        | Some at ↦ all_new r more (i + 1) (with_instance a u task (base_of r a.zone) i at g) (instance_new (base_of r a.zone) i at g n)
      ]

-- ---- parents are tasks, each once

abbrev pub AreTasks : TasksValue → List Change → Type 0
AreTasks tasks [] = ⊤
AreTasks tasks (c ∷ cs) = (is_some (get tasks c.uuid) ≡ true) × AreTasks tasks cs

-- the uuids of entries are others than those of changes
abbrev pub AreAhead : Entries → List Change → Type 0
AreAhead [] cs = ⊤
AreAhead (e ∷ es) cs = AreOthers e.0 cs × AreAhead es cs

pub record AreParents (tasks : TasksValue) (es : Entries) (cs : List Change) : Type 0 where
  pub apart : AreApart cs
  pub known : AreTasks tasks cs
  pub ahead : AreAhead es cs

others_behind : (u : List ℕ) (cs : List Change) (c : Change) → AreOthers u cs → same_bytes c.uuid u ≡ false → AreOthers u (cs ++ c ∷ [])
others_behind u [] c o f = (f, tt)
others_behind u (d ∷ ds) c o f = (o.0, others_behind u ds c o.1 f)

apart_behind : (cs : List Change) (c : Change) → AreApart cs → AreOthers c.uuid cs → AreApart (cs ++ c ∷ [])
apart_behind [] c p o = (tt, tt)
apart_behind (d ∷ ds) c p o = (others_behind d.uuid ds c p.0 (same_bytes_back c.uuid d.uuid ∙ o.0), apart_behind ds c p.1 o.1)

known_behind : (tasks : TasksValue) (cs : List Change) (c : Change) → AreTasks tasks cs → is_some (get tasks c.uuid) ≡ true → AreTasks tasks (cs ++ c ∷ [])
known_behind tasks [] c k here = (here, tt)
known_behind tasks (d ∷ ds) c k here = (k.0, known_behind tasks ds c k.1 here)

-- a key that is below another is another
pub below_apart : (u v : List ℕ) → T (is_lt (bytes_cmp u v)) → same_bytes u v ≡ false
below_apart u v h = texts_ties u v ∙ ap is_eq (less (bytes_cmp u v) h)

ahead_behind : (es : Entries) (cs : List Change) (c : Change) → T (below_all bytes_cmp c.uuid es) → AreAhead es cs → AreAhead es (cs ++ c ∷ [])
ahead_behind [] cs c b a = tt
ahead_behind (e ∷ es) cs c b a = (others_behind e.0 cs c a.0 (below_apart c.uuid e.0 (first _ _ b)), ahead_behind es cs c (second _ _ b) a.1)

one_behind : (tasks : TasksValue) (es : Entries) (cs : List Change) (c : Change) → is_some (get tasks c.uuid) ≡ true → T (below_all bytes_cmp c.uuid es) → AreOthers c.uuid cs → AreParents tasks es cs → AreParents tasks es (cs ++ c ∷ [])
one_behind tasks es cs c here b o p = record { apart = apart_behind cs c p.apart o; known = known_behind tasks cs c p.known here; ahead = ahead_behind es cs c b p.ahead }

-- what a step over an entry keeps
pub record IsStep (tasks : TasksValue) (es : Entries) (m : Making) : Type 0 where
  pub new : IsNew tasks m.made
  pub parents : AreParents tasks es m.parents

module _ (a : Asked) (u : List ℕ) (task : TaskValue) (es : Entries) (here : is_some (get a.tasks u) ≡ true) (b : T (below_all bytes_cmp u es)) where
  mask_step : (cs : List Change) (mask : List ℕ) → AreOthers u cs → AreParents a.tasks es cs → AreParents a.tasks es (cs ++ mask_change u task a.now mask)
  mask_step cs mask o p =
      let change : Change = record { uuid = u; task = Some (with_mask task mask a.now) } in
      elim (nat_lt (length (mask_of task)) (length mask)) as (λ t. AreParents a.tasks es (cs ++ cond t (change ∷ []) [])) [
        | true ↦ one_behind a.tasks es cs change here b o p
        | false ↦ subst (AreParents a.tasks es) (sym (append-nil cs)) p
      ]

  pub parent_step : (m : Making) → AreOthers u m.parents → IsStep a.tasks es m → IsStep a.tasks es (with_parent a u task m)
  unfolding with_parent
  parent_step m o s =
      elim (recurrence_of task) as (λ r. IsStep a.tasks es (with_recurrence a u task m r)) [
        | None ↦ s
        | Some r ↦ (let g : Growth = grown a u task r (length (chars (mask_of task))) 1000 (record { made = m.made; mask = mask_of task }) in
            record {
              new = all_new a u task r 1000 (length (chars (mask_of task))) (record { made = m.made; mask = mask_of task }) s.new;
              parents = mask_step m.parents g.mask o s.parents;
            })
      ]

-- each key of entries is a task's
abbrev pub AreKeys : TasksValue → Entries → Type 0
AreKeys tasks es = (k : List ℕ) → is_some (find bytes_cmp k es) ≡ true → is_some (get tasks k) ≡ true

pub found_first : (e : List ℕ × TaskValue) (es : Entries) → is_some (find bytes_cmp e.0 (e ∷ es)) ≡ true
found_first e es = ap (λ t. is_some (cond t (Some e.1) (find bytes_cmp e.0 es))) (sym (texts_ties e.0 e.0) ∙ same_bytes_itself e.0)

pub found_later : (k : List ℕ) (e : List ℕ × TaskValue) (es : Entries) → is_some (find bytes_cmp k es) ≡ true → is_some (find bytes_cmp k (e ∷ es)) ≡ true
found_later k e es h = elim (eq_by_cmp bytes_cmp k e.0) as (λ t. is_some (cond t (Some e.1) (find bytes_cmp k es)) ≡ true) [ true ↦ refl | false ↦ h ]

pub all_steps : (a : Asked) (es : Entries) (m : Making) → T (is_sorted bytes_cmp es) → AreKeys a.tasks es → IsStep a.tasks es m → IsStep a.tasks [] (with_parents a m es)
all_steps a [] m h k s = s
all_steps a (e ∷ es) m h k s =
    let rest : IsStep a.tasks es m = record { new = s.new; parents = record { apart = s.parents.apart; known = s.parents.known; ahead = s.parents.ahead.1 } } in
    all_steps a es (with_parent a e.0 e.1 m) (second _ _ h) (λ q f. k q (found_later q e es f))
    (parent_step a e.0 e.1 es (k e.0 (found_first e es)) (first _ _ h) m s.parents.ahead.0 rest)

-- ---- all changes

pub no_task : (tasks : TasksValue) (u : List ℕ) (cs : List Change) → get tasks u ≡ None → AreTasks tasks cs → AreOthers u cs
no_task tasks u [] none k = tt
no_task tasks u (c ∷ cs) none k = (
  elim (same_bytes c.uuid u) as (λ t. same_bytes c.uuid u ≡ t → t ≡ false) [
    | true ↦ λ t. sym k.0 ∙ ap (λ q. is_some (get tasks q)) (same_bytes_exact c.uuid u t) ∙ ap is_some none
    | false ↦ λ t. refl
  ] refl,
  no_task tasks u cs none k.1,
)

others_made : (u : List ℕ) (es : Entries) (cs : List Change) → T (below_all bytes_cmp u es) → AreOthers u cs → AreOthers u (made_changes es ++ cs)
others_made u [] cs b o = o
others_made u (e ∷ es) cs b o = (same_bytes_back e.0 u ∙ below_apart u e.0 (first _ _ b), others_made u es cs (second _ _ b) o)

all_apart : (tasks : TasksValue) (es : Entries) (cs : List Change) → T (is_sorted bytes_cmp es) → ((k : List ℕ) → is_some (find bytes_cmp k es) ≡ true → get tasks k ≡ None) → AreTasks tasks cs → AreApart cs → AreApart (made_changes es ++ cs)
all_apart tasks [] cs h n k p = p
all_apart tasks (e ∷ es) cs h n k p =
    (others_made e.0 es cs (first _ _ h) (no_task tasks e.0 cs (n e.0 (found_first e es)) k), all_apart tasks es cs (second _ _ h) (λ q f. n q (found_later q e es f)) k p)

none_ahead : (es : Entries) → AreAhead es []
none_ahead [] = tt
none_ahead (e ∷ es) = (tt, none_ahead es)

none_made : (tasks : TasksValue) → IsNew tasks empty
none_made tasks u is = absurd (let no : is_some (get {X = TaskValue} {R = bytes_cmp} empty u) ≡ false = ap is_some (get-empty bytes_cmp u) in cc)

pub start_step : (tasks : TasksValue) → IsStep tasks (entries tasks) (record { made = empty; parents = [] })
start_step tasks = record { new = none_made tasks; parents = record { apart = tt; known = tt; ahead = none_ahead (entries tasks) } }

pub all_keys : (tasks : TasksValue) → AreKeys tasks (entries tasks)
all_keys tasks = λ k f. ap is_some (get-entries tasks k) ∙ f

pub making_step : (a : Asked) → IsStep a.tasks [] (with_parents a (record { made = empty; parents = [] }) (entries a.tasks))
making_step a = all_steps a (entries a.tasks) (record { made = empty; parents = [] }) (entries_sorted a.tasks) (all_keys a.tasks) (start_step a.tasks)

pub making_apart : (a : Asked) → AreApart (changes_in (with_parents a (record { made = empty; parents = [] }) (entries a.tasks)))
making_apart a =
    let s = making_step a in
    let m : Making = with_parents a (record { made = empty; parents = [] }) (entries a.tasks) in
    all_apart a.tasks (entries m.made) m.parents (entries_sorted m.made) (λ k f. s.new k (ap is_some (get-entries m.made k) ∙ f)) s.parents.known s.parents.apart

pub instances_are_apart : InstancesAreApart
unfolding instance_changes
instances_are_apart tasks now tz limit = making_apart (record { tasks = tasks; zone = tz; now = now; limit = limit })

pub instances_are_changes : InstancesAreChanges
unfolding instances_of
instances_are_changes tasks at tz limit = each_is_all tasks (instance_changes tasks at.seconds tz limit) at (instances_are_apart tasks at.seconds tz limit)
