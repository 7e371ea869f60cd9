-- The state that a step leads to.
use Rattle.std.proofs.Common.{◌≡◌, ℕ, Bool, true, cond, List, [], ◌∷◌, ◌++◌, false, Option, Some, None, Result, Ok, Err, OnOk, refl, sym, ap, ◌∙◌}
use Rattle.tw_model.specs.Ops.{TasksValue, apply_all}
use Rattle.tw_model.specs.LocalOps.{apply_all_local, take_back_all}
use Rattle.tw_model.specs.declared.Op.{Op}
use Rattle.tw_model.specs.declared.SyncOp.{SyncOp}
use Rattle.tw_bodies.specs.Body.{Step, body_of}
use Rattle.tw_bodies.specs.Body.Step.{Sync}
use Rattle.tw_bodies.specs.Reading.{step_of}
use Rattle.tw_fields.specs.Reading.{◌>>=◌}
use Rattle.tw_numbers.specs.Numbering.{assigned}
use Rattle.tw_state.specs.State.{State, start, is_idle, misfit, unless, packed_if, moved_to, committed, split_group, undone, start_of, misfit_synced, at_base, carried, moved, may_pend, partly, synced, applied, stepped, replayed, Stands}

regrouped : (o : Option State) (f g : State → Option State) → (o >>= f) >>= g ≡ o >>= (λ s. f s >>= g)
regrouped None f g = refl
regrouped (Some s) f g = refl

pub replayed-push : (bodies : List (List ℕ)) (s : State) (body : List ℕ) → replayed s (bodies ++ body ∷ []) ≡ replayed s bodies >>= (λ t. stepped t body)
replayed-push [] s body = by (stepped s body)
  where
    by : (o : Option State) → o >>= (λ t. Some t) ≡ o
    by None = refl
    by (Some t) = refl
replayed-push (b ∷ bodies) s body = by (stepped s b) (λ t. replayed-push bodies t body) ∙ sym (regrouped (stepped s b) (λ t. replayed t bodies) (λ t. stepped t body))
  where
    by : (o : Option State) {f g : State → Option State} → ((t : State) → f t ≡ g t) → o >>= f ≡ o >>= g
    by None h = refl
    by (Some t) h = h t

pub stands_more : (bodies : List (List ℕ)) (step : Step) (old new : State) → Stands bodies old → step_of (body_of step) ≡ Some step → applied old step ≡ Some new → Stands (bodies ++ body_of step ∷ []) new
stands_more bodies step old new stands read done = replayed-push bodies start (body_of step) ∙ ap (λ o. o >>= (λ t. stepped t (body_of step))) stands ∙ ap (λ o. o >>= applied old) read ∙ done

-- the state that a commit leads to
pub is_committed : (renumber : Bool) (ops : List Op) (old new : State) → is_idle renumber ops ≡ false → misfit 0 old.tasks ops ≡ None → new.base ≡ old.base → new.pending ≡ old.pending ++ ops → new.tasks ≡ apply_all_local old.tasks ops → new.numbers ≡ packed_if renumber (assigned old.numbers (apply_all_local old.tasks ops)) → committed renumber ops old ≡ Some new
is_committed renumber ops old new busy fits base pending tasks numbers =
    let made = moved_to renumber (old.pending ++ ops) (apply_all_local old.tasks ops) old in
    let same : made ≡ new = λ i. record { base = sym base i; pending = sym pending i; tasks = sym tasks i; numbers = sym numbers i } in
    ap (λ b. cond b (Some old) (unless (misfit 0 old.tasks ops) made)) busy ∙ ap (λ o. unless o made) fits ∙ ap (λ s. Some s) same

pub on_ok_three : {A E P Q R S : Type 0} (r : Result A E) → OnOk r P → OnOk r Q → OnOk r R → (P → Q → R → S) → OnOk r S
on_ok_three (Ok a) p q s f = f p q s
on_ok_three (Err e) p q s f = tt

pub leads_on : (renumber : Bool) (ops : List Op) (old : State) → is_idle renumber ops ≡ false → misfit 0 old.tasks ops ≡ None → committed renumber ops old ≡ Some (moved_to renumber (old.pending ++ ops) (apply_all_local old.tasks ops) old)
leads_on renumber ops old busy fits =
    let made = moved_to renumber (old.pending ++ ops) (apply_all_local old.tasks ops) old in
    ap (λ b. cond b (Some old) (unless (misfit 0 old.tasks ops) made)) busy ∙ ap (λ o. unless o made) fits

pub leads_back : (old : State) (left taken : List Op) → split_group old.pending ≡ Some (left, taken) → undone old ≡ Some (moved_to false left (take_back_all old.tasks taken) old)
leads_back old left taken split = ap (λ o. o >>= λ parts. Some (moved_to false parts.0 (take_back_all old.tasks parts.1) old)) split

pub is_undone : (old new : State) (left taken : List Op) → split_group old.pending ≡ Some (left, taken) → new.base ≡ old.base → new.pending ≡ left → new.tasks ≡ take_back_all old.tasks taken → new.numbers ≡ assigned old.numbers (take_back_all old.tasks taken) → undone old ≡ Some new
is_undone old new left taken split base pending tasks numbers =
    let made = moved_to false left (take_back_all old.tasks taken) old in
    let same : made ≡ new = λ i. record { base = sym base i; pending = sym pending i; tasks = sym tasks i; numbers = sym numbers i } in
    leads_back old left taken split ∙ ap (λ s. Some s) same

pub is_synced : (base : List ℕ) (ops : List SyncOp) (old new : State) → new.base ≡ base → new.pending ≡ [] → new.tasks ≡ apply_all (start_of old) ops → new.numbers ≡ assigned old.numbers (apply_all (start_of old) ops) → applied old (Sync base ops) ≡ Some new
is_synced base ops old new at none tasks numbers =
    let same : synced base ops old ≡ new = λ i. record { base = sym at i; pending = sym none i; tasks = sym tasks i; numbers = sym numbers i } in
    ap (λ s. Some s) same

-- the state that a sync in place leads to
pub is_carried : (base : List ℕ) (ops : List SyncOp) (old new : State) → misfit_synced 0 old.tasks ops ≡ None → new.base ≡ base → new.pending ≡ [] → new.tasks ≡ apply_all old.tasks ops → new.numbers ≡ assigned old.numbers (apply_all old.tasks ops) → carried base ops old ≡ Some new
is_carried base ops old new fits at none tasks numbers =
    let made = at_base base (apply_all old.tasks ops) old in
    let same : made ≡ new = λ i. record { base = sym at i; pending = sym none i; tasks = sym tasks i; numbers = sym numbers i } in
    ap (λ o. unless o made) fits ∙ ap (λ s. Some s) same

pub carries_on : (base : List ℕ) (ops : List SyncOp) (old : State) → misfit_synced 0 old.tasks ops ≡ None → carried base ops old ≡ Some (at_base base (apply_all old.tasks ops) old)
carries_on base ops old fits = ap (λ o. unless o (at_base base (apply_all old.tasks ops) old)) fits

-- the state that a sync leads to that was cut short, and when there is none
pub partly_on : (base : List ℕ) (ops : List SyncOp) (pending : List Op) (old : State) → misfit_synced 0 old.tasks ops ≡ None → may_pend (apply_all old.tasks ops) pending ≡ true → partly base ops pending old ≡ Some (moved base pending (apply_all old.tasks ops) old)
partly_on base ops pending old fits may =
    let made = moved base pending (apply_all old.tasks ops) old in
    ap (λ b. cond b (unless (misfit_synced 0 old.tasks ops) made) None) may ∙ ap (λ o. unless o made) fits

pub is_partly : (base : List ℕ) (ops : List SyncOp) (pending : List Op) (old new : State) → misfit_synced 0 old.tasks ops ≡ None → may_pend (apply_all old.tasks ops) pending ≡ true → new.base ≡ base → new.pending ≡ pending → new.tasks ≡ apply_all old.tasks ops → new.numbers ≡ assigned old.numbers (apply_all old.tasks ops) → partly base ops pending old ≡ Some new
is_partly base ops pending old new fits may at left tasks numbers =
    let made = moved base pending (apply_all old.tasks ops) old in
    let same : made ≡ new = λ i. record { base = sym at i; pending = sym left i; tasks = sym tasks i; numbers = sym numbers i } in
    partly_on base ops pending old fits may ∙ ap (λ s. Some s) same

pub not_carried : (base : List ℕ) (ops : List SyncOp) (pending : List Op) (old : State) (n : ℕ) → misfit_synced 0 old.tasks ops ≡ Some n → partly base ops pending old ≡ None
not_carried base ops pending old n misfit = ap (λ o. cond (may_pend (apply_all old.tasks ops) pending) (unless o (moved base pending (apply_all old.tasks ops) old)) None) misfit ∙ by (may_pend (apply_all old.tasks ops) pending)
  where
    none : Option State
    none = None

    by : (b : Bool) → cond b none none ≡ none
    by true = refl
    by false = refl

-- whether operations may be pending is tested once the carried ones are applied
pub pends_then : (old there : TasksValue) (ops : List SyncOp) (pending : List Op) (may : Bool) → there ≡ apply_all old ops → may ≡ may_pend there pending → may_pend (apply_all old ops) pending ≡ may
pends_then old there ops pending may made told = ap (λ (t : TasksValue). may_pend t pending) (sym made) ∙ sym told

pub not_pending : (base : List ℕ) (ops : List SyncOp) (pending : List Op) (old : State) → may_pend (apply_all old.tasks ops) pending ≡ false → partly base ops pending old ≡ None
not_pending base ops pending old not = ap (λ b. cond b (unless (misfit_synced 0 old.tasks ops) (moved base pending (apply_all old.tasks ops) old)) None) not
