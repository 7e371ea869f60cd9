-- Where a path of dependencies leads.
use Rattle.std.proofs.Common.{◌≡◌, ◌⊎◌, inl, inr, ◌∙◌, ap, sym, refl, subst, ◌↔◌, ℕ, zero, suc, ◌≤◌, ◌-◌, ◌||◌, Bool, true, false, cond, IsTrue, is_some, List, [], ◌∷◌, Option, Some, None, arith}
use Rattle.std.proofs.lemmas.Cmp.{nat_list_cmp_total}
use Rattle.std.specs.List.{list_any}
use Rattle.std.specs.FinMap.{get, keys, len, get-empty, empty_of_len, len-remove}
use Rattle.std.specs.BTreeSet.{BTreeSet, contains}
use Rattle.tw_model.specs.Maps.{bytes_cmp, same_bytes, set_at}
use Rattle.tw_model.specs.Ops.{TaskValue, TasksValue}
use Rattle.tw_model.proofs.Maps.{same_bytes_exact, same_bytes_itself, get-set_at, get-set_at_apart}
use Rattle.tw_urgency.specs.Dependencies.{dependency_in, is_that}
use Rattle.tw_urgency.specs.Paths.{depends, depends_there, IsPath, Leads, IsReachedFrom}
use Rattle.tw_urgency.proofs.Reaching.{either, first_of_two, second_of_two}
use Rattle.tw_changes.specs.Circles.{leads_next, leads_on, leads_over, leads, LeadsWhereAPathLeads}

same_truth : (a b : Bool) → (a ≡ true → b ≡ true) → (b ≡ true → a ≡ true) → a ≡ b
same_truth true b f g = sym (f refl)
same_truth false true f g = g refl
same_truth false false f g = refl

-- ---- the dependencies of one task

named_leads : (next : List ℕ → Bool) (v : List ℕ) (o : Option (List ℕ)) → is_that v o ≡ true → next v ≡ true → leads_next next o ≡ true
named_leads next v None there on = absurd (cc)
named_leads next v (Some w) there on = ap next (sym (same_bytes_exact v w there)) ∙ on

any_leads : (next : List ℕ → Bool) (v : List ℕ) (names : List (List ℕ)) → list_any (λ name. is_that v (dependency_in name)) names ≡ true → next v ≡ true
    → list_any (λ name. leads_next next (dependency_in name)) names ≡ true
any_leads next v [] there on = absurd (cc)
any_leads next v (name ∷ names) there on =
    let here = leads_next next (dependency_in name) in
    let later = list_any (λ name. leads_next next (dependency_in name)) names in
    either (is_that v (dependency_in name)) (list_any (λ name. is_that v (dependency_in name)) names) ((here || later) ≡ true) there
    (λ is. first_of_two here later (named_leads next v (dependency_in name) is on)) (λ is. second_of_two here later (any_leads next v names is on))

task_leads : (next : List ℕ → Bool) (v : List ℕ) (there : Option TaskValue) → depends_there there v ≡ true → next v ≡ true → leads_on next there ≡ true
task_leads next v None is on = absurd (cc)
task_leads next v (Some task) is on = any_leads next v (keys task) is on

named_is : (next : List ℕ → Bool) (o : Option (List ℕ)) → leads_next next o ≡ true → (v : List ℕ) × ((is_that v o ≡ true) × (next v ≡ true))
named_is next None on = absurd (cc)
named_is next (Some v) on = (v, (same_bytes_itself v, on))

any_is : (next : List ℕ → Bool) (names : List (List ℕ)) → list_any (λ name. leads_next next (dependency_in name)) names ≡ true
    → (v : List ℕ) × ((list_any (λ name. is_that v (dependency_in name)) names ≡ true) × (next v ≡ true))
any_is next [] on = absurd (cc)
any_is next (name ∷ names) on =
    let some = λ (v : List ℕ). list_any (λ name. is_that v (dependency_in name)) names in
    either (leads_next next (dependency_in name)) (list_any (λ name. leads_next next (dependency_in name)) names)
    ((v : List ℕ) × (((is_that v (dependency_in name) || some v) ≡ true) × (next v ≡ true))) on
    (λ here. let is = named_is next (dependency_in name) here in (is.0, (first_of_two (is_that is.0 (dependency_in name)) (some is.0) is.1.0, is.1.1)))
    (λ later. let is = any_is next names later in (is.0, (second_of_two (is_that is.0 (dependency_in name)) (some is.0) is.1.0, is.1.1)))

task_is : (next : List ℕ → Bool) (there : Option TaskValue) → leads_on next there ≡ true → (v : List ℕ) × ((depends_there there v ≡ true) × (next v ≡ true))
task_is next None on = absurd (cc)
task_is next (Some task) on = any_is next (keys task) on

-- ---- among the other tasks

there_none : (o : Option TaskValue) (v : List ℕ) → o ≡ None → depends_there o v ≡ true → ⊥
there_none None v none is = absurd (cc)
there_none (Some task) v none is = absurd (cc)

still_depends : (tasks : TasksValue) (u x y : List ℕ) → depends (set_at tasks u None) x y ≡ true → depends tasks x y ≡ true
still_depends tasks u x y is = by (same_bytes x u) refl
  where
    by : (b : Bool) → same_bytes x u ≡ b → depends tasks x y ≡ true
    by true same = absurd (there_none (get (set_at tasks u None) x) y (get-set_at tasks u None x ∙ ap (λ b. cond b None (get tasks x)) same) is)
    by false apart = ap (λ o. depends_there o y) (sym (get-set_at_apart tasks u None x apart)) ∙ is

depends_beside : (tasks : TasksValue) (u x y : List ℕ) → same_bytes x u ≡ false → depends tasks x y ≡ true → depends (set_at tasks u None) x y ≡ true
depends_beside tasks u x y apart is = ap (λ o. depends_there o y) (get-set_at_apart tasks u None x apart) ∙ is

still_path : (tasks : TasksValue) (u : List ℕ) (path : List (List ℕ)) (x end : List ℕ) → IsPath (set_at tasks u None) x path end → IsPath tasks x path end
still_path tasks u [] x end is = is
still_path tasks u (y ∷ path) x end is = (still_depends tasks u x y is.0, still_path tasks u path y end is.1)

-- a path either stays beside a task, or its last part does, from a dependency of that task on
behind : (tasks : TasksValue) (u : List ℕ) (path : List (List ℕ)) (x end : List ℕ) → IsPath tasks x path end
    → Leads (set_at tasks u None) x end ⊎ ((v : List ℕ) × (IsTrue (depends tasks u v) × Leads (set_at tasks u None) v end))
behind tasks u [] x end is = inl ([], is)
behind tasks u (y ∷ path) x end is = by (behind tasks u path y end is.1)
  where
    at : (b : Bool) → same_bytes x u ≡ b → Leads (set_at tasks u None) y end
        → Leads (set_at tasks u None) x end ⊎ ((v : List ℕ) × (IsTrue (depends tasks u v) × Leads (set_at tasks u None) v end))
    at true same way = inr (y, (subst (λ z. IsTrue (depends tasks z y)) (same_bytes_exact x u same) is.0, way))
    at false apart way = inl (y ∷ way.0, (depends_beside tasks u x y apart is.0, way.1))

    by : Leads (set_at tasks u None) y end ⊎ ((v : List ℕ) × (IsTrue (depends tasks u v) × Leads (set_at tasks u None) v end))
        → Leads (set_at tasks u None) x end ⊎ ((v : List ℕ) × (IsTrue (depends tasks u v) × Leads (set_at tasks u None) v end))
    by (inl way) = at (same_bytes x u) refl way
    by (inr way) = inr way

there_some : (o : Option TaskValue) (v : List ℕ) → depends_there o v ≡ true → is_some o ≡ true
there_some None v is = absurd (cc)
there_some (Some task) v is = refl

no_task : (tasks : TasksValue) (u v : List ℕ) → len tasks ≤ 0 → depends tasks u v ≡ true → ⊥
no_task tasks u v none is =
    let nothing : len tasks ≡ 0 = omega (arith, none) in
    there_none (get tasks u) v (ap (λ (t : TasksValue). get t u) (empty_of_len tasks nothing) ∙ get-empty bytes_cmp u) is

fewer : (tasks : TasksValue) (u v : List ℕ) (n : ℕ) → len tasks ≤ suc n → depends tasks u v ≡ true → len (set_at tasks u None) ≤ n
fewer tasks u v n few is =
    let less : len (set_at tasks u None) ≡ len tasks - 1 = len-remove nat_list_cmp_total tasks u ∙ ap (λ b. cond b (len tasks - 1) (len tasks)) (there_some (get tasks u) v is) in
    omega (arith, less, few)

-- ---- paths of whatever length

-- a path of at least one dependency, by what is known of the paths beside its first task
complete_on : (tasks : TasksValue) (u v end : List ℕ) (next : List ℕ → Bool) → ((w : List ℕ) → depends tasks u w ≡ true → Leads (set_at tasks u None) w end → next w ≡ true) → IsTrue (depends tasks u v)
    → Leads (set_at tasks u None) v end ⊎ ((w : List ℕ) × (IsTrue (depends tasks u w) × Leads (set_at tasks u None) w end)) → leads_on next (get tasks u) ≡ true
complete_on tasks u v end next beside first (inl way) = task_leads next v (get tasks u) first (beside v first way)
complete_on tasks u v end next beside first (inr way) = task_leads next way.0 (get tasks u) way.1.0 (beside way.0 way.1.0 way.1.1)

complete : (n : ℕ) (tasks : TasksValue) (path : List (List ℕ)) (u end : List ℕ) → len tasks ≤ n → IsPath tasks u path end → leads_over n tasks u end ≡ true
complete zero tasks [] u end few is = ap (same_bytes u) (sym is) ∙ same_bytes_itself u
complete zero tasks (v ∷ path) u end few is = absurd (no_task tasks u v few is.0)
complete (suc n) tasks [] u end few is =
    first_of_two (same_bytes u end) (leads_on (λ v. leads_over n (set_at tasks u None) v end) (get tasks u)) (ap (same_bytes u) (sym is) ∙ same_bytes_itself u)
complete (suc n) tasks (v ∷ path) u end few is =
    second_of_two (same_bytes u end) (leads_on (λ w. leads_over n (set_at tasks u None) w end) (get tasks u))
    (complete_on tasks u v end (λ w. leads_over n (set_at tasks u None) w end) (λ w first way. complete n (set_at tasks u None) way.0 w end (fewer tasks u w n few first) way.1) is.0
    (behind tasks u path v end is.1))

sound_on : (tasks : TasksValue) (u end : List ℕ) (next : List ℕ → Bool) → ((w : List ℕ) → next w ≡ true → Leads (set_at tasks u None) w end)
    → (v : List ℕ) × ((depends_there (get tasks u) v ≡ true) × (next v ≡ true)) → Leads tasks u end
sound_on tasks u end next beside step = let way = beside step.0 step.1.1 in (step.0 ∷ way.0, (step.1.0, still_path tasks u way.0 step.0 end way.1))

sound : (n : ℕ) (tasks : TasksValue) (u end : List ℕ) → leads_over n tasks u end ≡ true → Leads tasks u end
sound zero tasks u end is = ([], same_bytes_exact u end is)
sound (suc n) tasks u end is =
    either (same_bytes u end) (leads_on (λ v. leads_over n (set_at tasks u None) v end) (get tasks u)) (Leads tasks u end) is
    (λ same. ([], same_bytes_exact u end same))
    (λ on. sound_on tasks u end (λ v. leads_over n (set_at tasks u None) v end) (λ w. sound n (set_at tasks u None) w end) (task_is (λ v. leads_over n (set_at tasks u None) v end) (get tasks u) on))

pub leads_by_paths : LeadsWhereAPathLeads
unfolding leads
leads_by_paths tasks u end = (sound (len tasks) tasks u end, λ way. complete (len tasks) tasks way.0 u end (omega arith) way.1)

pub as_leads : (b : Bool) (tasks : TasksValue) (u end : List ℕ) → IsTrue b ↔ Leads tasks u end → b ≡ leads tasks u end
as_leads b tasks u end is = same_truth b (leads tasks u end) (λ e. (leads_by_paths tasks u end).1 (is.0 e)) (λ e. is.1 ((leads_by_paths tasks u end).0 e))

-- what a dependency leads to is reached
pub is_not_reached : (tasks : TasksValue) (old new : BTreeSet (List ℕ)) (u d : List ℕ) → IsReachedFrom tasks d old new → contains bytes_cmp new u ≡ false → false ≡ leads tasks d u
is_not_reached tasks old new u d is out = as_leads false tasks d u (λ e. absurd (cc), λ way. let here : contains bytes_cmp new u ≡ true = (is u).1 (inr way) in absurd (cc))
