-- The operations of changes fit and lead to what is changed.
use Rattle.std.proofs.Common.{◌≡◌, ◌∙◌, ap, refl, sym, subst, ℕ, true, ◌&&◌, append_assoc, List, [], ◌∷◌, ◌++◌, Option, Some, None, is_none}
use lib.Pointwise.{pointwise}
use Rattle.std.specs.FinMap.{get, empty, entries}
use Rattle.tw_world.specs.declared.Moment.{Moment}
use Rattle.tw_model.specs.Maps.{same_bytes, set_at}
use Rattle.tw_model.specs.Ops.{TaskValue, TasksValue, left_there}
use Rattle.tw_model.specs.LocalOps.{same_property, is_task, same_task, fits_local, apply_local, apply_all_local, FitAllLocal}
use Rattle.tw_model.specs.declared.operations.Op.{Op}
use Rattle.tw_model.specs.declared.operations.Op.TheVariants.{Create, Delete}
use Rattle.tw_model.specs.declared.operations.SyncOp.TheVariants as sync
use Rattle.tw_model.proofs.Maps.{same_bytes_itself, get-set_at_here, set_at-set_at, set_at_back}
use Rattle.tw_model.proofs.LocalOps.{effect}
use Rattle.tw_model.proofs.EditLists.{edits_lead}
use Rattle.tw_model.specs.Changes.{change_ops, changed, changed_all, ops_of, ops_of_all, ChangesLeadThere}
use Rattle.tw_model.specs.declared.changes.Change.{Change}

-- operations fit and lead to these tasks
abbrev Leads : TasksValue → List Op → TasksValue → Type 0
Leads old ops new = FitAllLocal old ops × (apply_all_local old ops ≡ new)

pub leads-append : (a b c : TasksValue) (xs ys : List Op) → Leads a xs b → Leads b ys c → Leads a (xs ++ ys) c
leads-append a b c [] ys x y = subst (λ t. Leads t ys c) (sym x.1) y
leads-append a b c (op ∷ xs) ys x y =
    let rest : Leads (apply_local a op) (xs ++ ys) c = leads-append (apply_local a op) b c xs ys (x.0.1, x.1) y in
    ((x.0.0, rest.0), rest.1)

made : (tasks : TasksValue) (u : List ℕ) → get tasks u ≡ None → apply_local tasks (Create u) ≡ set_at tasks u (Some empty)
made tasks u e = effect tasks (Create u) (ap is_none e) ∙ ap (λ o. set_at tasks u (left_there (sync.Create u) o)) e

same_lists_itself : (xs : List (List ℕ × List ℕ)) → pointwise same_property xs xs ≡ true
same_lists_itself [] = refl
same_lists_itself (x ∷ xs) = ap (λ b. (b && same_bytes x.1 x.1) && pointwise same_property xs xs) (same_bytes_itself x.0) ∙ ap (λ b. b && pointwise same_property xs xs) (same_bytes_itself x.1) ∙ same_lists_itself xs

same_task_itself : (m : TaskValue) → same_task m m ≡ true
same_task_itself m = same_lists_itself (entries m)

gone_fits : (tasks : TasksValue) (u : List ℕ) (before : TaskValue) → get tasks u ≡ Some before → fits_local tasks (Delete u before) ≡ true
gone_fits tasks u before e = ap (is_task before) e ∙ same_task_itself before

pub change_leads : (tasks : TasksValue) (u : List ℕ) (before after : Option TaskValue) (at : Moment) → get tasks u ≡ before → Leads tasks (change_ops u before after at) (set_at tasks u after)
change_leads tasks u None None at e = (tt, sym (set_at_back tasks u) ∙ ap (set_at tasks u) e)
change_leads tasks u None (Some after) at e =
    let m = made tasks u e in
    let there : get (apply_local tasks (Create u)) u ≡ Some empty = ap (λ t. get t u) m ∙ get-set_at_here tasks u (Some empty) in
    let rest = edits_lead (apply_local tasks (Create u)) u empty after at there in
    ((ap is_none e, rest.0), rest.1 ∙ ap (λ t. set_at t u (Some after)) m ∙ set_at-set_at tasks u (Some empty) (Some after))
change_leads tasks u (Some before) None at e = ((gone_fits tasks u before e, tt), effect tasks (Delete u before) (gone_fits tasks u before e))
change_leads tasks u (Some before) (Some after) at e = edits_lead tasks u before after at e

pub changes_lead : ChangesLeadThere
changes_lead tasks [] at = (tt, refl)
changes_lead tasks (change ∷ changes) at =
    leads-append tasks (changed tasks change) (changed_all (changed tasks change) changes) (ops_of tasks change at) (ops_of_all (changed tasks change) changes at)
    (change_leads tasks change.uuid (get tasks change.uuid) change.task at refl) (changes_lead (changed tasks change) changes at)

pub changed_all-append : (tasks : TasksValue) (xs ys : List Change) → changed_all tasks (xs ++ ys) ≡ changed_all (changed_all tasks xs) ys
changed_all-append tasks [] ys = refl
changed_all-append tasks (x ∷ xs) ys = changed_all-append (changed tasks x) xs ys

pub ops_of_all-append : (tasks : TasksValue) (xs ys : List Change) (at : Moment) → ops_of_all tasks (xs ++ ys) at ≡ ops_of_all tasks xs at ++ ops_of_all (changed_all tasks xs) ys at
ops_of_all-append tasks [] ys at = refl
ops_of_all-append tasks (x ∷ xs) ys at =
    ap (λ (ops : List Op). ops_of tasks x at ++ ops) (ops_of_all-append (changed tasks x) xs ys at)
    ∙ sym (append_assoc (ops_of tasks x at) (ops_of_all (changed tasks x) xs at) (ops_of_all (changed_all (changed tasks x) xs) ys at))
