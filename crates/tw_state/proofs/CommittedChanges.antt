-- Changes made in the tasks of a replica are a commit of their operations.
use Rattle.std.proofs.Common.{◌≡◌, ◌∙◌, ap, refl, sym, ℕ, ◌+◌, Bool, true, false, cond, ◌||◌, append_assoc, List, [], ◌∷◌, ◌++◌, Option, Some, None}
use Rattle.std.specs.Option.{option_eq}
use Rattle.std.specs.FinMap.{get, empty}
use Rattle.tw_world.specs.declared.Moment.{Moment}
use Rattle.tw_model.specs.Maps.{same_bytes}
use Rattle.tw_model.specs.Ops.{TaskValue, TasksValue}
use Rattle.tw_model.specs.Edits.{edits_at, keys_of_both}
use Rattle.tw_model.specs.LocalOps.{apply_local, apply_all_local, FitAllLocal}
use Rattle.tw_model.specs.declared.Op.{Op}
use Rattle.tw_model.specs.declared.Op.TheVariants.{Create, Delete, Update, UndoPoint}
use Rattle.tw_model.specs.Changes.{change_ops, changed, changed_all, ops_of, ops_of_all, group_of}
use Rattle.tw_model.specs.declared.Change.{Change}
use Rattle.tw_model.proofs.Leading.{changes_lead}
use Rattle.tw_bodies.specs.Body.{is_group, has_no_point}
use Rattle.tw_state.specs.State.{State, is_idle, misfit, unless, moved_to, packed_if, committed}
use Rattle.tw_numbers.specs.Numbering.{assigned}
use Rattle.tw_state.proofs.StatesReached.{is_committed}
use Rattle.tw_state.proofs.OthersUnchanged.{not_first, not_second}
use Rattle.tw_model.proofs.Maps.{get-set_at_apart}

pub none_misfits : (n : ℕ) (tasks : TasksValue) (ops : List Op) → FitAllLocal tasks ops → misfit n tasks ops ≡ None
none_misfits n tasks [] fit = refl
none_misfits n tasks (op ∷ ops) fit = ap (λ b. cond b (misfit (n + 1) (apply_local tasks op) ops) (Some n)) fit.0 ∙ none_misfits (n + 1) (apply_local tasks op) ops fit.1

group_fits : (tasks : TasksValue) (ops : List Op) → FitAllLocal tasks ops → FitAllLocal tasks (group_of ops)
group_fits tasks [] fit = tt
group_fits tasks (op ∷ ops) fit = (refl, fit)

group_leads : (tasks : TasksValue) (ops : List Op) → apply_all_local tasks (group_of ops) ≡ apply_all_local tasks ops
group_leads tasks [] = refl
group_leads tasks (op ∷ ops) = refl

-- no edit is an undo point
edits_have_no_point : (u : List ℕ) (before after : TaskValue) (at : Moment) (ps : List (List ℕ)) → has_no_point (edits_at u before after at ps) ≡ true
edits_have_no_point u before after at [] = refl
edits_have_no_point u before after at (p ∷ ps) = by (option_eq same_bytes (get before p) (get after p)) (edits_have_no_point u before after at ps)
  where
    by : (same : Bool) → has_no_point (edits_at u before after at ps) ≡ true → has_no_point (cond same (edits_at u before after at ps) (Update u p (get before p) (get after p) at ∷ edits_at u before after at ps)) ≡ true
    by true rest = rest
    by false rest = rest

change_has_no_point : (u : List ℕ) (before after : Option TaskValue) (at : Moment) → has_no_point (change_ops u before after at) ≡ true
change_has_no_point u None None at = refl
change_has_no_point u None (Some after) at = edits_have_no_point u empty after at (keys_of_both empty after)
change_has_no_point u (Some before) None at = refl
change_has_no_point u (Some before) (Some after) at = edits_have_no_point u before after at (keys_of_both before after)

no_point-append : (xs ys : List Op) → has_no_point xs ≡ true → has_no_point ys ≡ true → has_no_point (xs ++ ys) ≡ true
no_point-append [] ys a b = b
no_point-append (UndoPoint ∷ xs) ys a b = absurd cc
no_point-append (Create u ∷ xs) ys a b = no_point-append xs ys a b
no_point-append (Delete u before ∷ xs) ys a b = no_point-append xs ys a b
no_point-append (Update u p before after at ∷ xs) ys a b = no_point-append xs ys a b

changes_have_no_point : (tasks : TasksValue) (changes : List Change) (at : Moment) → has_no_point (ops_of_all tasks changes at) ≡ true
changes_have_no_point tasks [] at = refl
changes_have_no_point tasks (change ∷ changes) at =
    no_point-append (ops_of tasks change at) (ops_of_all (changed tasks change) changes at) (change_has_no_point change.uuid (get tasks change.uuid) change.task at) (changes_have_no_point (changed tasks change) changes at)

group_is : (ops : List Op) → has_no_point ops ≡ true → is_group (group_of ops) ≡ true
group_is [] e = refl
group_is (op ∷ ops) e = e

pub changes_are_group : (tasks : TasksValue) (changes : List Change) (at : Moment) → is_group (group_of (ops_of_all tasks changes at)) ≡ true
changes_are_group tasks changes at = group_is (ops_of_all tasks changes at) (changes_have_no_point tasks changes at)

pub no_ops : (renumber : Bool) (ops : List Op) → is_idle renumber (group_of ops) ≡ true → ops ≡ []
no_ops true ops e = absurd cc
no_ops false [] e = refl
no_ops false (op ∷ ops) e = absurd cc

-- changes without operations change nothing
pub idle_same : (renumber : Bool) (tasks : TasksValue) (changes : List Change) (at : Moment) → is_idle renumber (group_of (ops_of_all tasks changes at)) ≡ true → changed_all tasks changes ≡ tasks
idle_same renumber tasks changes at idle = sym (changes_lead tasks changes at).1 ∙ ap (apply_all_local tasks) (no_ops renumber (ops_of_all tasks changes at) idle)

-- nothing is committed if there is nothing to do
pub idle_is_committed : (renumber : Bool) (changes : List Change) (at : Moment) (old new : State) → is_idle renumber (group_of (ops_of_all old.tasks changes at)) ≡ true → new.base ≡ old.base → new.pending ≡ old.pending → new.tasks ≡ changed_all old.tasks changes → new.numbers ≡ old.numbers
    → committed renumber (group_of (ops_of_all old.tasks changes at)) old ≡ Some new
idle_is_committed renumber changes at old new idle base pending tasks numbers =
    let there : new.tasks ≡ old.tasks = tasks ∙ idle_same renumber old.tasks changes at idle in
    let same : old ≡ new = λ i. record { base = sym base i; pending = sym pending i; tasks = sym there i; numbers = sym numbers i } in
    ap (λ b. cond b (Some old) (unless (misfit 0 old.tasks (group_of (ops_of_all old.tasks changes at))) (moved_to renumber (old.pending ++ group_of (ops_of_all old.tasks changes at)) (apply_all_local old.tasks (group_of (ops_of_all old.tasks changes at))) old))) idle ∙ ap (λ s. Some s) same

-- else their operations are
pub changes_are_committed : (renumber : Bool) (changes : List Change) (at : Moment) (old new : State) → is_idle renumber (group_of (ops_of_all old.tasks changes at)) ≡ false → new.base ≡ old.base → new.pending ≡ old.pending ++ group_of (ops_of_all old.tasks changes at)
    → new.tasks ≡ changed_all old.tasks changes → new.numbers ≡ packed_if renumber (assigned old.numbers (changed_all old.tasks changes)) → committed renumber (group_of (ops_of_all old.tasks changes at)) old ≡ Some new
changes_are_committed renumber changes at old new busy base pending tasks numbers =
    let ops = ops_of_all old.tasks changes at in
    let leads = changes_lead old.tasks changes at in
    let to : apply_all_local old.tasks (group_of ops) ≡ changed_all old.tasks changes = group_leads old.tasks ops ∙ leads.1 in
    is_committed renumber (group_of ops) old new busy (none_misfits 0 old.tasks (group_of ops) (group_fits old.tasks ops leads.0)) base pending (tasks ∙ sym to) (numbers ∙ ap (λ t. packed_if renumber (assigned old.numbers t)) (sym to))

-- ---- one change more

pub tasks_more : (tasks new : TasksValue) (change : Change) (left rest : List Change) (whole : TasksValue) → left ≡ change ∷ rest → new ≡ changed tasks change → changed_all tasks left ≡ whole → changed_all new rest ≡ whole
tasks_more tasks new change left rest whole split made so_far = ap (λ (t : TasksValue). changed_all t rest) made ∙ ap (changed_all tasks) (sym split) ∙ so_far

pub ops_more : (tasks new : TasksValue) (change : Change) (left rest : List Change) (at : Moment) (had has whole : List Op) → left ≡ change ∷ rest → new ≡ changed tasks change → has ≡ had ++ ops_of tasks change at → had ++ ops_of_all tasks left at ≡ whole → has ++ ops_of_all new rest at ≡ whole
ops_more tasks new change left rest at had has whole split made put so_far =
    ap (λ (ops : List Op). ops ++ ops_of_all new rest at) put ∙ ap (λ (t : TasksValue). (had ++ ops_of tasks change at) ++ ops_of_all t rest at) made
    ∙ append_assoc had (ops_of tasks change at) (ops_of_all (changed tasks change) rest at) ∙ ap (λ (cs : List Change). had ++ ops_of_all tasks cs at) (sym split) ∙ so_far

pub among_more : (old tasks new : TasksValue) (change : Change) (had has : List ℕ → Bool) → new ≡ changed tasks change → ((u : List ℕ) → has u ≡ (had u || same_bytes u change.uuid)) → ((u : List ℕ) → had u ≡ false → get tasks u ≡ get old u) → (u : List ℕ) → has u ≡ false → get new u ≡ get old u
among_more old tasks new change had has made more so_far u e =
    let none = sym (more u) ∙ e in
    ap (λ (t : TasksValue). get t u) made ∙ get-set_at_apart tasks change.uuid change.task u (not_second (had u) (same_bytes u change.uuid) none) ∙ so_far u (not_first (had u) (same_bytes u change.uuid) none)
