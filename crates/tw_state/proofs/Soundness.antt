-- Each step keeps a sound state sound.
use Rattle.std.proofs.Common.{◌≡◌, ℕ, ◌+◌, Bool, true, false, cond, List, [], ◌∷◌, ◌++◌, Option, Some, None, refl, sym, ap, subst, ◌∙◌}
use Rattle.std.specs.Prelude.{◌&&◌, is_none, is_some}
use Rattle.std.specs.FinMap.{empty}
use Rattle.std.proofs.lemmas.Option.{cond_some}
use Rattle.tw_model.specs.Ops.{TasksValue, apply, apply_all, FitAll}
use Rattle.tw_model.specs.LocalOps.{fits_local, apply_local, apply_all_local, FitAllLocal, take_back, take_back_all}
use Rattle.tw_model.specs.declared.Op.{Op}
use Rattle.tw_model.specs.declared.Op.TheVariants.{UndoPoint}
use Rattle.tw_model.specs.declared.SyncOp.{SyncOp}
use Rattle.tw_model.proofs.LocalOps.{all_taken_back}
use Rattle.tw_bodies.specs.Body.{Step, is_undo_point, is_group}
use Rattle.tw_bodies.specs.Body.Step.{Commit, Undo, Sync, Carried, Partial, Checkpoint}
use Rattle.tw_bodies.specs.Reading.{step_of}
use Rattle.tw_fields.specs.Reading.{◌>>=◌}
use Rattle.tw_model.specs.Places.{Places}
use Rattle.tw_numbers.specs.Numbering.{assigned}
use Rattle.tw_numbers.specs.Assigned.{IsAssignedIn, is_assigned}
use Rattle.tw_state.specs.State.{State, start, misfit, is_idle, unless, moved_to, split_group, undone, start_of, misfit_synced, moved, before_all, may_pend, is_sound, partly, applied, stepped, replayed, Stands, begins_with_point, state_on, is_sound_on}
use Rattle.tw_state.specs.Core.{state_of}
use Rattle.tw_state.specs.Pending.{BeginsWithPoint}
use Rattle.tw_state.specs.declared.state.Core.{Core}
use Rattle.tw_state.specs.Sound.{IsSound, IsUndone, SoundIsTested, LeadingMayPend, FittingMayBeCarried, CheckpointLeads}
use Rattle.tw_state.proofs.CommittedChanges.{none_misfits}
use Rattle.tw_numbers.proofs.Basics.{both_hold}
use Rattle.tw_state.proofs.Groups.{IsOfGroup, point_is, split_is, step_read, group_begins, begins-append, begins_front}
use Rattle.tw_numbers.proofs.TestedAssigned.{assigned_if, assigned_is}
use Rattle.tw_numbers.proofs.PlacedAfter.{assigned_in, packed_if_in}
use Rattle.tw_state.proofs.StepsTaken.{empty_assigned}
use Rattle.tw_state.proofs.BeforePending.{found, finds}
use Rattle.std.proofs.lemmas.Bool.{true≢false}

-- ---- operations one after another

pub fits_from : (n : ℕ) (tasks : TasksValue) (ops : List Op) → misfit n tasks ops ≡ None → FitAllLocal tasks ops
fits_from n tasks [] e = tt
fits_from n tasks (op ∷ ops) e = by (fits_local tasks op) refl e (fits_from (n + 1) (apply_local tasks op) ops)
  where
    by : (b : Bool) → fits_local tasks op ≡ b → cond b (misfit (n + 1) (apply_local tasks op) ops) (Some n) ≡ None → (misfit (n + 1) (apply_local tasks op) ops ≡ None → FitAllLocal (apply_local tasks op) ops) → FitAllLocal tasks (op ∷ ops)
    by true t f rest = (t, rest f)
    by false t f rest = absurd cc

pub applied-append : (tasks : TasksValue) (xs ys : List Op) → apply_all_local tasks (xs ++ ys) ≡ apply_all_local (apply_all_local tasks xs) ys
applied-append tasks [] ys = refl
applied-append tasks (x ∷ xs) ys = applied-append (apply_local tasks x) xs ys

pub back-append : (tasks : TasksValue) (xs ys : List Op) → take_back_all tasks (xs ++ ys) ≡ take_back_all (take_back_all tasks ys) xs
back-append tasks [] ys = refl
back-append tasks (x ∷ xs) ys = ap (λ t. take_back t x) (back-append tasks xs ys)

pub fit-append : (tasks : TasksValue) (xs ys : List Op) → FitAllLocal tasks xs → FitAllLocal (apply_all_local tasks xs) ys → FitAllLocal tasks (xs ++ ys)
fit-append tasks [] ys first second = second
fit-append tasks (x ∷ xs) ys first second = (first.0, fit-append (apply_local tasks x) xs ys first.1 second)

pub fit_front : (tasks : TasksValue) (xs ys : List Op) → FitAllLocal tasks (xs ++ ys) → FitAllLocal tasks xs
fit_front tasks [] ys fits = tt
fit_front tasks (x ∷ xs) ys fits = (fits.0, fit_front (apply_local tasks x) xs ys fits.1)

pub fit_behind : (tasks : TasksValue) (xs ys : List Op) → FitAllLocal tasks (xs ++ ys) → FitAllLocal (apply_all_local tasks xs) ys
fit_behind tasks [] ys fits = fits
fit_behind tasks (x ∷ xs) ys fits = fit_behind (apply_local tasks x) xs ys fits.1

some_state : (s t : State) → Some s ≡ Some t → s ≡ t
some_state s t e = ap (λ (o : Option State). of o) e
  where
    of : Option State → State
    of None = s
    of (Some r) = r

-- ---- a commit

commit_sound : (renumber : Bool) (ops : List Op) (old : State) → IsSound old → is_group ops ≡ true → misfit 0 old.tasks ops ≡ None → IsSound (moved_to renumber (old.pending ++ ops) (apply_all_local old.tasks ops) old)
commit_sound renumber ops old is group fit =
    let fits : FitAllLocal old.tasks ops = fits_from 0 old.tasks ops fit in
    let made = apply_all_local old.tasks ops in
    let same : take_back_all made (old.pending ++ ops) ≡ start_of old = back-append made old.pending ops ∙ ap (λ (t : TasksValue). take_back_all t old.pending) (all_taken_back old.tasks ops fits) in
    record {
      begins = begins-append old.pending ops is.begins (group_begins ops group);
      fits = subst (λ (t : TasksValue). FitAllLocal t (old.pending ++ ops)) (sym same) (fit-append (start_of old) old.pending ops is.fits (subst (λ (t : TasksValue). FitAllLocal t ops) is.tasks fits));
      tasks = ap (λ (t : TasksValue). apply_all_local t ops) is.tasks ∙ sym (applied-append (start_of old) old.pending ops) ∙ ap (λ (t : TasksValue). apply_all_local t (old.pending ++ ops)) (sym same);
      assigned = packed_if_in renumber (assigned old.numbers made) made (assigned_in old.numbers made is.assigned.once);
    }

-- ---- an undo

module _ (old : State) (parts : List Op × List Op) (is : IsSound old) (split : split_group old.pending ≡ Some parts) where
  whole : old.pending ≡ parts.0 ++ UndoPoint ∷ parts.1
  whole = split_is old.pending parts split

  all_fit : FitAllLocal (start_of old) (parts.0 ++ UndoPoint ∷ parts.1)
  all_fit = subst (FitAllLocal (start_of old)) whole is.fits

  before_point : TasksValue
  before_point = apply_all_local (start_of old) parts.0

  group_back : take_back_all old.tasks parts.1 ≡ apply_all_local (start_of old) parts.0
  group_back =
      ap (λ (t : TasksValue). take_back_all t parts.1) (is.tasks ∙ ap (apply_all_local (start_of old)) whole ∙ applied-append (start_of old) parts.0 (UndoPoint ∷ parts.1))
      ∙ all_taken_back (apply_all_local (start_of old) parts.0) parts.1 (fit_behind (start_of old) parts.0 (UndoPoint ∷ parts.1) all_fit).1

  start_back : take_back_all (take_back_all old.tasks parts.1) parts.0 ≡ start_of old
  start_back = ap (λ (t : TasksValue). take_back_all t parts.0) group_back ∙ all_taken_back (start_of old) parts.0 (fit_front (start_of old) parts.0 (UndoPoint ∷ parts.1) all_fit)

  pub undo_sound : IsSound (moved_to false parts.0 (take_back_all old.tasks parts.1) old)
  undo_sound = record {
    begins = begins_front parts.0 (UndoPoint ∷ parts.1) (subst BeginsWithPoint whole is.begins);
    fits = subst (λ (t : TasksValue). FitAllLocal t parts.0) (sym start_back) (fit_front (start_of old) parts.0 (UndoPoint ∷ parts.1) all_fit);
    tasks = group_back ∙ ap (λ (t : TasksValue). apply_all_local t parts.0) (sym start_back);
    assigned = assigned_in old.numbers (take_back_all old.tasks parts.1) is.assigned.once;
  }

  pub undo_back : IsUndone old (moved_to false parts.0 (take_back_all old.tasks parts.1) old)
  undo_back = record { base = refl; group = parts.1; split = split; start = start_back; tasks = group_back }

pub undo_leads_back : (old new : State) → IsSound old → undone old ≡ Some new → IsUndone old new
undo_leads_back old new is e = by (split_group old.pending) refl e
  where
    by : (o : Option (List Op × List Op)) → split_group old.pending ≡ o → o >>= (λ parts. Some (moved_to false parts.0 (take_back_all old.tasks parts.1) old)) ≡ Some new → IsUndone old new
    by None s f = absurd cc
    by (Some parts) s f = subst (IsUndone old) (some_state _ new f) (undo_back old parts is s)

-- ---- the end of a sync

begins_if : (ops : List Op) → begins_with_point ops ≡ true → BeginsWithPoint ops
begins_if [] e = tt
begins_if (op ∷ ops) e = point_is op e

begins_is : (ops : List Op) → BeginsWithPoint ops → begins_with_point ops ≡ true
begins_is [] is = refl
begins_is (op ∷ ops) is = ap is_undo_point is

-- operations that may be pending, and what they are
pub record MayPend (tasks : TasksValue) (pending : List Op) : Type 0 where
  pub begins : BeginsWithPoint pending
  pub fits : FitAllLocal (take_back_all tasks pending) pending
  pub leads : tasks ≡ apply_all_local (take_back_all tasks pending) pending

pub pends_if : (tasks : TasksValue) (pending : List Op) → may_pend tasks pending ≡ true → MayPend tasks pending
pends_if tasks pending e = by (before_all tasks pending) refl
  where
    parts : (begins_with_point pending ≡ true) × (is_some (before_all tasks pending) ≡ true)
    parts = both_hold (begins_with_point pending) (is_some (before_all tasks pending)) e

    by : (o : Option TasksValue) → before_all tasks pending ≡ o → MayPend tasks pending
    by None f = absurd (true≢false (sym parts.1 ∙ ap is_some f))
    by (Some start) f =
        let is = found tasks start pending f in
        let back : start ≡ take_back_all tasks pending = sym (all_taken_back start pending is.0) ∙ ap (λ (t : TasksValue). take_back_all t pending) (sym is.1) in
        record { begins = begins_if pending parts.0; fits = subst (λ (t : TasksValue). FitAllLocal t pending) back is.0; leads = is.1 ∙ ap (λ (t : TasksValue). apply_all_local t pending) back }

moved_sound : (base : List ℕ) (pending : List Op) (tasks : TasksValue) (old : State) → IsSound old → MayPend tasks pending → IsSound (moved base pending tasks old)
moved_sound base pending tasks old is may = record { begins = may.begins; fits = may.fits; tasks = may.leads; assigned = assigned_in old.numbers tasks is.assigned.once }

base_sound : (base : List ℕ) (tasks : TasksValue) (old : State) → IsSound old → IsSound (moved base [] tasks old)
base_sound base tasks old is = moved_sound base [] tasks old is (record { begins = tt; fits = tt; leads = refl })

unless_is : (o : Option ℕ) (a b : State) → unless o a ≡ Some b → a ≡ b
unless_is None a b e = some_state a b e
unless_is (Some n) a b e = absurd cc

partly_sound : (base : List ℕ) (ops : List SyncOp) (pending : List Op) (old new : State) → IsSound old → partly base ops pending old ≡ Some new → IsSound new
partly_sound base ops pending old new is e =
    let made = moved base pending (apply_all old.tasks ops) old in
    let w = cond_some_of (may_pend (apply_all old.tasks ops) pending) (unless (misfit_synced 0 old.tasks ops) made) new e in
    subst IsSound (unless_is (misfit_synced 0 old.tasks ops) made new w.1) (moved_sound base pending (apply_all old.tasks ops) old is (pends_if (apply_all old.tasks ops) pending w.0))
  where
    cond_some_of : (b : Bool) (o : Option State) (t : State) → cond b o None ≡ Some t → (b ≡ true) × (o ≡ Some t)
    cond_some_of true o t f = (refl, f)
    cond_some_of false o t f = absurd cc

-- ---- the test

pub sound_if : (state : State) → is_sound state ≡ true → IsSound state
sound_if state e =
    let parts = both_hold (may_pend state.tasks state.pending) (is_assigned state.numbers state.tasks) e in
    let may = pends_if state.tasks state.pending parts.0 in
    record { begins = may.begins; fits = may.fits; tasks = may.leads; assigned = assigned_if state.tasks state.numbers parts.1 }

pub sound_is : (state : State) → IsSound state → is_sound state ≡ true
sound_is state sound =
    ap (λ b. (b && is_some (before_all state.tasks state.pending)) && is_assigned state.numbers state.tasks) (begins_is state.pending sound.begins)
    ∙ ap (λ (o : Option TasksValue). is_some o && is_assigned state.numbers state.tasks) (finds state.tasks (start_of state) state.pending sound.fits sound.tasks)
    ∙ assigned_is state.tasks state.numbers sound.assigned

pub sound_is_tested : SoundIsTested
sound_is_tested state = (sound_if state, sound_is state)

-- ---- a whole state

pub none_is : (o : Option ℕ) → is_none o ≡ true → o ≡ None
none_is None e = refl
none_is (Some n) e = absurd cc

restored_sound : (base : List ℕ) (places : Places) (tasks : TasksValue) (pending : List Op) → is_sound_on places tasks pending ≡ true → IsSound (state_on base places tasks pending)
restored_sound base places tasks pending e =
    let tests = both_hold (begins_with_point pending) _ e in
    let more = both_hold (is_none (misfit 0 tasks pending)) (is_assigned places (apply_all_local tasks pending)) tests.1 in
    let fits : FitAllLocal tasks pending = fits_from 0 tasks pending (none_is _ more.0) in
    let back : tasks ≡ start_of (state_on base places tasks pending) = sym (all_taken_back tasks pending fits) in
    record {
      begins = begins_if pending tests.0;
      fits = subst (λ (t : TasksValue). FitAllLocal t pending) back fits;
      tasks = ap (λ (t : TasksValue). apply_all_local t pending) back;
      assigned = assigned_if (apply_all_local tasks pending) places more.1;
    }

pub checkpoint_leads : CheckpointLeads
checkpoint_leads before state is =
    let fits : misfit 0 (start_of state) state.pending ≡ None = none_misfits 0 (start_of state) state.pending is.fits in
    let placed : is_assigned state.numbers (apply_all_local (start_of state) state.pending) ≡ true = assigned_is (apply_all_local (start_of state) state.pending) state.numbers (subst (IsAssignedIn state.numbers) is.tasks is.assigned) in
    rw (begins_is state.pending is.begins, fits, placed) (ap (λ (t : TasksValue). let s : State = record { base = state.base; pending = state.pending; tasks = t; numbers = state.numbers } in Some s) (sym is.tasks))

-- ---- each step, and all of them

applied_sound : (s t : State) (step : Step) → IsOfGroup step → IsSound s → applied s step ≡ Some t → IsSound t
applied_sound s t (Commit renumber ops) group is e = by (is_idle renumber ops) e
  where
    fitting : (o : Option ℕ) → misfit 0 s.tasks ops ≡ o → unless o (moved_to renumber (s.pending ++ ops) (apply_all_local s.tasks ops) s) ≡ Some t → IsSound t
    fitting None m f = subst IsSound (some_state _ t f) (commit_sound renumber ops s is group m)
    fitting (Some n) m f = absurd cc

    by : (b : Bool) → cond b (Some s) (unless (misfit 0 s.tasks ops) (moved_to renumber (s.pending ++ ops) (apply_all_local s.tasks ops) s)) ≡ Some t → IsSound t
    by true f = subst IsSound (some_state s t f) is
    by false f = fitting (misfit 0 s.tasks ops) refl f
applied_sound s t Undo group is e = by (split_group s.pending) refl e
  where
    by : (o : Option (List Op × List Op)) → split_group s.pending ≡ o → o >>= (λ parts. Some (moved_to false parts.0 (take_back_all s.tasks parts.1) s)) ≡ Some t → IsSound t
    by None m f = absurd cc
    by (Some parts) m f = subst IsSound (some_state _ t f) (undo_sound s parts is m)
applied_sound s t (Sync base ops) group is e = subst IsSound (some_state _ t e) (base_sound base (apply_all (start_of s) ops) s is)
applied_sound s t (Carried base ops) group is e = subst IsSound (unless_is (misfit_synced 0 s.tasks ops) (moved base [] (apply_all s.tasks ops) s) t e) (base_sound base (apply_all s.tasks ops) s is)
applied_sound s t (Partial base ops pending) group is e = partly_sound base ops pending s t is e
applied_sound s t (Checkpoint base places tasks pending) group is e =
    let w = cond_some (is_sound_on places tasks pending) (state_on base places tasks pending) t e in
    subst IsSound w.1 (restored_sound base places tasks pending w.0)

stepped_sound : (s t : State) (body : List ℕ) → IsSound s → stepped s body ≡ Some t → IsSound t
stepped_sound s t body is e = by (step_of body) refl e
  where
    by : (o : Option Step) → step_of body ≡ o → o >>= applied s ≡ Some t → IsSound t
    by None read f = absurd cc
    by (Some step) read f = applied_sound s t step (step_read body step read) is f

replayed_sound : (s t : State) (bodies : List (List ℕ)) → IsSound s → replayed s bodies ≡ Some t → IsSound t
replayed_sound s t [] is e = subst IsSound (some_state s t e) is
replayed_sound s t (body ∷ bodies) is e = by (stepped s body) refl e (λ n. replayed_sound n t bodies)
  where
    by : (o : Option State) → stepped s body ≡ o → o >>= (λ n. replayed n bodies) ≡ Some t → ((n : State) → IsSound n → replayed n bodies ≡ Some t → IsSound t) → IsSound t
    by None m f rest = absurd cc
    by (Some n) m f rest = rest n (stepped_sound s n body is m) f

start_is : IsSound start
start_is = record { begins = tt; fits = tt; tasks = refl; assigned = empty_assigned [] empty refl refl }

pub stands_sound : (bodies : List (List ℕ)) (state : State) → Stands bodies state → IsSound state
stands_sound bodies state stands = replayed_sound start state bodies start_is stands

-- ---- the same of the tests

pub leading_may_pend : LeadingMayPend
leading_may_pend start tasks pending begins fits leads =
    ap (λ b. b && is_some (before_all tasks pending)) (begins_is pending begins) ∙ ap (λ (o : Option TasksValue). is_some o) (finds tasks start pending fits leads)

fitting_from : (n : ℕ) (tasks : TasksValue) (ops : List SyncOp) → FitAll tasks ops → misfit_synced n tasks ops ≡ None
fitting_from n tasks [] fits = refl
fitting_from n tasks (op ∷ ops) fits = ap (λ b. cond b (misfit_synced (n + 1) (apply tasks op) ops) (Some n)) fits.0 ∙ fitting_from (n + 1) (apply tasks op) ops fits.1

pub fitting_may_be_carried : FittingMayBeCarried
fitting_may_be_carried tasks ops fits = fitting_from 0 tasks ops fits

pub start_sound : is_sound start ≡ true
start_sound = sound_is start start_is

pub stays_sound : (old new : State) → new ≡ old → is_sound old ≡ true → is_sound new ≡ true
stays_sound old new same e = ap is_sound same ∙ e

pub step_sound : (step : Step) (old new : State) → IsOfGroup step → is_sound old ≡ true → applied old step ≡ Some new → is_sound new ≡ true
step_sound step old new group e done = sound_is new (applied_sound old new step group (sound_if old e) done)

pub body_sound : (body : List ℕ) (old new : State) → stepped old body ≡ Some new → is_sound old ≡ true → is_sound new ≡ true
body_sound body old new done e = sound_is new (stepped_sound old new body (sound_if old e) done)

pub held_assigned : (core : Core) → is_sound (state_of core) ≡ true → IsAssignedIn core.numbers.items core.tasks
held_assigned core e = (sound_if (state_of core) e).assigned
