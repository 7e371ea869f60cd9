-- What changes leave at one uuid.
use Rattle.std.proofs.Common.{◌≡◌, ◌∙◌, ap, sym, refl, subst, ℕ, Bool, true, false, cond, List, [], ◌∷◌, ◌++◌, map, Option, Some, None, is_some}
use Rattle.std.proofs.lemmas.List.{nil_from_length}
use Rattle.std.specs.FinMap.{get, empty, entries, len-entries, len-empty}
use Rattle.tw_world.specs.declared.Moment.{Moment}
use Rattle.tw_model.specs.Maps.{bytes_cmp, same_bytes}
use Rattle.tw_model.specs.Ops.{TaskValue, TasksValue}
use Rattle.tw_model.specs.Changes.{changed, changed_all}
use Rattle.tw_model.specs.declared.Change.{Change}
use Rattle.tw_model.proofs.Maps.{same_bytes_exact, same_bytes_itself, get-set_at}
use Rattle.tw_numbers.proofs.FirstPlaces.{AreFound}
use Rattle.tw_recur.specs.Instances.{made_changes}
use Rattle.tw_recur.proofs.Once.{IsNew}
use Rattle.tw_changes.specs.Marks.{mask_change, mask_changes}
use Rattle.tw_commands.specs.Asks.{is_asked_in, answered_all}
use Rattle.tw_commands.specs.Makes.Duplicate.{change_of}

-- each change of this uuid leaves such a task, or none
abbrev pub EachLeaves : (Option TaskValue → Type 0) → List ℕ → List Change → Type 0
EachLeaves P u [] = Unit {0}
EachLeaves P u (c ∷ cs) = (u ≡ c.uuid → P c.task) × EachLeaves P u cs

pub both_leave : (P : Option TaskValue → Type 0) (u : List ℕ) (xs ys : List Change) → EachLeaves P u xs → EachLeaves P u ys → EachLeaves P u (xs ++ ys)
both_leave P u [] ys a b = b
both_leave P u (x ∷ xs) ys a b = (a.0, both_leave P u xs ys a.1 b)

pub left_so : (P : Option TaskValue → Type 0) (u : List ℕ) (cs : List Change) (tasks : TasksValue) → EachLeaves P u cs → P (get tasks u) → P (get (changed_all tasks cs) u)
left_so P u [] tasks each so_far = so_far
left_so P u (c ∷ cs) tasks each so_far = left_so P u cs (changed tasks c) each.1 (subst P (sym (get-set_at tasks c.uuid c.task u)) (by (same_bytes u c.uuid) refl))
  where
    by : (b : Bool) → same_bytes u c.uuid ≡ b → P (cond b c.task (get tasks u))
    by true same = each.0 (same_bytes_exact u c.uuid same)
    by false apart = so_far

-- ---- changes that are apart from a uuid

-- no change is of this uuid
abbrev pub AreApart : List ℕ → List Change → Type 0
AreApart u cs = EachLeaves (λ o. ⊥) u cs

apart_leave : (P : Option TaskValue → Type 0) (u : List ℕ) (cs : List Change) → AreApart u cs → EachLeaves P u cs
apart_leave P u [] apart = tt
apart_leave P u (c ∷ cs) apart = (λ same. absurd (apart.0 same), apart_leave P u cs apart.1)

-- whatever hooks answer
pub answered_leave : (P : Option TaskValue → Type 0) (u : List ℕ) (answers : List TaskValue) (tasks : TasksValue) (cs : List Change) → AreApart u cs
    → EachLeaves P u (answered_all answers tasks cs)
answered_leave P u [] tasks cs apart = apart_leave P u cs apart
answered_leave P u (answer ∷ answers) tasks [] apart = tt
answered_leave P u (answer ∷ answers) tasks (c ∷ cs) apart =
    by (is_asked_in tasks c) (answered_leave P u answers tasks cs apart.1) (answered_leave P u (answer ∷ answers) tasks cs apart.1)
  where
    by : (t : Bool) → EachLeaves P u (answered_all answers tasks cs) → EachLeaves P u (answered_all (answer ∷ answers) tasks cs)
        → EachLeaves P u (cond t (record { uuid = c.uuid; task = Some answer } ∷ answered_all answers tasks cs) (c ∷ answered_all (answer ∷ answers) tasks cs))
    by true taken left = (λ same. absurd (apart.0 same), taken)
    by false taken left = (λ same. absurd (apart.0 same), left)

pub is_apart : (u v : List ℕ) → same_bytes u v ≡ false → u ≡ v → ⊥
is_apart u v apart same = let is : same_bytes u v ≡ true = ap (same_bytes u) (sym same) ∙ same_bytes_itself u in absurd cc

-- ---- what changes without marks leave

no_entries : entries {X = TaskValue} {R = bytes_cmp} empty ≡ []
no_entries = nil_from_length (entries {X = TaskValue} {R = bytes_cmp} empty) (sym (len-entries {X = TaskValue} {R = bytes_cmp} empty) ∙ len-empty bytes_cmp TaskValue)

pub no_masks : (P : Option TaskValue → Type 0) (u : List ℕ) (now : Moment) (tasks : TasksValue) → EachLeaves P u (mask_changes now tasks [])
no_masks P u now tasks = subst (λ (es : List (List ℕ × TaskValue)). EachLeaves P u (map (mask_change now tasks) es)) (sym no_entries) tt

pub no_task : (o : Option TaskValue) → is_some o ≡ false → o ≡ None
no_task None e = refl
no_task (Some x) e = absurd cc

-- ---- what is made of uuids without a task, where this one has one

module _ (tasks : TasksValue) (u : List ℕ) (before : TaskValue) (there : get tasks u ≡ Some before) where
  pub not_new : (v : List ℕ) → get tasks v ≡ None → u ≡ v → ⊥
  not_new v none same = let e : Some before ≡ None = sym there ∙ ap (get tasks) same ∙ none in absurd cc

  pub new_leave : (P : Option TaskValue → Type 0) (made : TasksValue) (es : List (List ℕ × TaskValue)) → IsNew tasks made → AreFound made es → EachLeaves P u (map change_of es)
  new_leave P made [] new found = tt
  new_leave P made (e ∷ es) new found = (λ same. absurd (not_new e.0 (new e.0 (ap is_some found.0)) same), new_leave P made es new found.1)

  pub instances_leave : (P : Option TaskValue → Type 0) (made : TasksValue) (es : List (List ℕ × TaskValue)) → IsNew tasks made → AreFound made es → EachLeaves P u (made_changes es)
  instances_leave P made [] new found = tt
  instances_leave P made (e ∷ es) new found = (λ same. absurd (not_new e.0 (new e.0 (ap is_some found.0)) same), instances_leave P made es new found.1)
