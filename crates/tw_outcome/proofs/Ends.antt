-- The ends of a sync.
use Rattle.std.proofs.Common.{◌≡◌, ℕ, Bool, true, false, cond, List, [], ◌∷◌, ◌++◌, ◌⊎◌, Option, Some, None, inl, inr, refl, sym, ap, subst, ◌∙◌}
use Rattle.tw_model.specs.Ops.{TasksValue, apply_all, FitAll, fit_part}
use Rattle.tw_model.specs.LocalOps.{synced, plain, FitAllLocal, apply_all_local, take_back_all}
use Rattle.tw_model.specs.declared.Op.{Op}
use Rattle.tw_model.proofs.LocalOps.{plain_same}
use Rattle.tw_protocol.specs.Chain.{Version, IsChain, IsBetween, Grows, same_id}
use Rattle.tw_state.specs.Pending.{BeginsWithPoint}
use Rattle.tw_state.specs.State.{State, at_base, unless, misfit_synced, carried, may_pend, partly}
use Rattle.tw_state.proofs.Soundness.{leading_may_pend, fitting_may_be_carried}
use Rattle.tw_state.specs.Sound.{IsSound, start_of}
use Rattle.tw_numbers.proofs.PlacedAfter.{assigned_in}
use Rattle.tw_groups.specs.Groups.{Groups, joined, put_in_front, parts_of, groups_of, pending_on}
use Rattle.tw_groups.specs.Cross.{cross}
use Rattle.tw_groups.proofs.Grouping.{groups_hold_all, renewed_fits, renewed_goes_back, renewed_is_of_groups}
use Rattle.tw_path.specs.Fold.{IsFold}
use Rattle.tw_path.specs.Path.{Reached, Leg, passed, come, MayPass, IsPath, versions_of}
use Rattle.tw_path.specs.Path.Leg.{Pull, Push}
use Rattle.tw_path.specs.PathLaws.{StandsBeside}
use Rattle.tw_path.proofs.Folds.{fold_grows, fold_is_one}
use Rattle.tw_path.proofs.Paths.{path_stands_beside, path_applies, path_splits}
use Rattle.tw_path.proofs.Versions.{path_folds, first_between}
use Rattle.tw_outcome.specs.Agreement.{Agrees}
use Rattle.tw_outcome.specs.Start.{starts_at, IsNewReplica, FromSnapshot, StartsSoundly}
use Rattle.tw_outcome.specs.End.{ServerChain, moved, stands_at, ends_at, IsStopped}
use Rattle.tw_outcome.specs.End.Answer.{Done, Stopped, Unwritten}
use Rattle.tw_outcome.specs.Laws.{StartStandsBeside, DoneIsSynced, DoneIsCarried, StoppedIsPartly, CarriedFits, StoppedStartsThere, IsBeyond, SnapshotLeadsOn, SnapshotEndsAlike, IsPathIn, NewReplicasEndAlike, EndAgrees}

-- ---- the start

-- what begins with an undo point has nothing before it
none_before : (pending : List Op) → BeginsWithPoint pending → (parts_of pending).0 ≡ []
none_before [] b = refl
none_before (op ∷ ops) b = ap (λ o. (put_in_front (synced o) (parts_of ops)).0) b

pub all_in_groups : (pending : List Op) → BeginsWithPoint pending → plain pending ≡ joined (groups_of pending)
all_in_groups pending b = groups_hold_all pending ∙ ap (λ zs. zs ++ joined (groups_of pending)) (none_before pending b)

pub start_stands_beside : StartStandsBeside
start_stands_beside state sound =
    let is = plain_same (start_of state) state.pending sound.fits in
    let all : plain state.pending ≡ joined (groups_of state.pending) = all_in_groups state.pending sound.begins in
    record {
      fits = subst (λ zs. FitAll (start_of state) zs) all is.0;
      carried_fits = tt;
      same = sound.tasks ∙ sym is.1 ∙ ap (apply_all (start_of state)) all;
    }

came : (state : State) (legs : List Leg) → IsSound state → IsPath (starts_at state) legs → StandsBeside state.tasks (come (starts_at state) legs)
came state legs sound p = path_stands_beside state.tasks (starts_at state) legs (start_stands_beside state sound) p

-- ---- the operations of all versions

pub done_is_synced : DoneIsSynced
done_is_synced state legs =
    let r : Reached = come (starts_at state) legs in
    ap (λ (t : TasksValue). moved r.at [] t state) (sym (path_applies (starts_at state) legs))

-- ---- what is carried

begins_so : (t : TasksValue) (gs : Groups) → BeginsWithPoint (pending_on t gs)
begins_so t [] = tt
begins_so t (g ∷ gs) = refl

pub carried_fits : CarriedFits
carried_fits state legs sound p = fitting_may_be_carried state.tasks (come (starts_at state) legs).carried (came state legs sound p).carried_fits

pub done_is_carried : DoneIsCarried
done_is_carried state legs sound p none =
    let r : Reached = come (starts_at state) legs in
    let s : StandsBeside state.tasks r = came state legs sound p in
    ap (λ (o : Option ℕ). unless o (moved r.at [] (apply_all state.tasks r.carried) state)) (carried_fits state legs sound p)
    ∙ ap (λ (t : TasksValue). Some (moved r.at [] t state)) (s.same ∙ ap (apply_all r.tasks) none)

pub stopped_is_partly : StoppedIsPartly
stopped_is_partly state legs sound p =
    let r : Reached = come (starts_at state) legs in
    let s : StandsBeside state.tasks r = came state legs sound p in
    let is = renewed_fits r.tasks r.left s.fits in
    let pending : List Op = pending_on r.tasks r.left in
    let after : TasksValue = apply_all state.tasks r.carried in
    let end : Option State = unless (misfit_synced 0 state.tasks r.carried) (moved r.at pending after state) in
    let pends : may_pend after pending ≡ true = leading_may_pend r.tasks after pending (begins_so r.tasks r.left) is.0 (s.same ∙ sym is.1) in (
      pends,
      ap (λ (b : Bool). cond b end None) pends
          ∙ ap (λ (o : Option ℕ). unless o (moved r.at pending after state)) (carried_fits state legs sound p)
          ∙ ap (λ (t : TasksValue). Some (moved r.at pending t state)) s.same,
    )

-- ---- agreement

agrees_is_kept : (state : State) (old new : List Version) → Agrees state old → Grows old new → Agrees state new
agrees_is_kept state old new a g = record { sound = a.sound; folded = fold_grows old new state.base (start_of state) a.folded g }

-- a sound replica that is moved to a version, with groups pending that fit there, agrees with the chain
pub moved_agrees : (old : State) (chain : List Version) (at : List ℕ) (t : TasksValue) (gs : Groups) → IsSound old → IsFold chain at t → FitAll t (joined gs) → Agrees (moved at (pending_on t gs) (apply_all t (joined gs)) old) chain
moved_agrees old chain at t gs sound f fit =
    let pending : List Op = pending_on t gs in
    let tasks : TasksValue = apply_all t (joined gs) in
    let back : take_back_all tasks pending ≡ t = renewed_goes_back t gs fit in
    let is = renewed_fits t gs fit in
    record {
      sound = record {
        begins = begins_so t gs;
        fits = subst (λ (w : TasksValue). FitAllLocal w pending) (sym back) is.0;
        tasks = sym is.1 ∙ ap (λ (w : TasksValue). apply_all_local w pending) (sym back);
        assigned = assigned_in old.numbers tasks sound.assigned.once;
      };
      folded = subst (IsFold chain at) (sym back) f;
    }

pub stopped_starts_there : StoppedStartsThere
stopped_starts_there old r fit =
    let back : take_back_all (apply_all r.tasks (joined r.left)) (pending_on r.tasks r.left) ≡ r.tasks = renewed_goes_back r.tasks r.left fit in
    let groups : groups_of (pending_on r.tasks r.left) ≡ r.left = (renewed_is_of_groups r.tasks r.left).0 in
    λ i. record { at = r.at; tasks = back i; left = groups i; carried = [] }

no_legs : (legs more : List Leg) → legs ++ more ≡ [] → legs ≡ []
no_legs [] more e = refl
no_legs (leg ∷ legs) more e = absurd cc

-- ---- from a snapshot

-- the state of a sound replica at any version with any tasks is sound, with nothing pending
pub at_base_sound : (old : State) (base : List ℕ) (tasks : TasksValue) → IsSound old → IsSound (at_base base tasks old)
at_base_sound old base tasks sound = record { begins = tt; fits = tt; tasks = refl; assigned = assigned_in old.numbers tasks sound.assigned.once }

snapshot_stands : (state : State) (start : Reached) → FromSnapshot state start → StandsBeside start.tasks start
snapshot_stands state start from = subst (λ r. StandsBeside r.tasks r) (sym from.is) (record { fits = tt; carried_fits = tt; same = refl })

none_crosses : (r : Reached) (leg : Leg) → r.left ≡ [] → MayPass r leg → (passed r leg).left ≡ []
none_crosses r (Pull v ops) none p = ap (λ gs. (cross (fit_part r.tasks ops) gs).1) none
none_crosses r (Push v ops) none p = absurd (p.some (ap joined none))

none_left : (r : Reached) (legs : List Leg) → r.left ≡ [] → IsPath r legs → (come r legs).left ≡ []
none_left r [] none p = none
none_left r (leg ∷ legs) none p = none_left (passed r leg) legs (none_crosses r leg none p.0) p.1

pub snapshot_leads_on : SnapshotLeadsOn
snapshot_leads_on state start legs from p =
    let none : (come start legs).left ≡ [] = none_left start legs (ap (λ r. r.left) from.is) p in
    let s : StandsBeside start.tasks (come start legs) = path_stands_beside start.tasks start legs (snapshot_stands state start from) p in
    record { left = none; tasks = sym (s.same ∙ ap (λ gs. apply_all (come start legs).tasks (joined gs)) none) }

pub snapshot_ends_alike : SnapshotEndsAlike
snapshot_ends_alike state r none = ap (λ gs. cond (same_id r.at state.base) state (moved r.at (pending_on r.tasks gs) (apply_all r.tasks (joined gs)) state)) none

-- a start from which what is left fits, and whose tasks are the fold
record FitsAt (chain : List Version) (start : Reached) : Type 0 where
  folded : IsFold chain start.at start.tasks
  fits : (legs : List Leg) → IsPath start legs → FitAll (come start legs).tasks (joined (come start legs).left)

fits_at : (old : State) (start : Reached) (chain : List Version) → Agrees old chain → StartsSoundly chain old start → FitsAt chain start
fits_at old start chain a (inl is) =
    subst (FitsAt chain) (sym is)
    (record { folded = a.folded; fits = λ legs p. (came old legs a.sound p).fits })
fits_at old start chain a (inr s) = record {
  folded = s.1;
  fits = λ legs p. (path_stands_beside start.tasks start legs (snapshot_stands old start s.0) p).fits;
}

-- ---- an end

-- the tasks at the end of a path are the fold, also if it has passed no version
pub went_folds : (start : Reached) (chain : List Version) (legs : List Leg) → IsChain chain → IsFold chain start.at start.tasks → IsPath start legs → (legs ≡ []) ⊎ IsBetween chain start.at (come start legs).at (versions_of legs)
    → IsFold chain (come start legs).at (come start legs).tasks
went_folds start chain legs whole f p (inl none) = subst (λ ls. IsFold chain (come start ls).at (come start ls).tasks) (sym none) f
went_folds start chain legs whole f p (inr b) = path_folds chain start legs whole f p b

-- the first part of a path
pub first_part : (start : Reached) (chain : List Version) (legs more : List Leg) → (legs ++ more ≡ []) ⊎ IsBetween chain start.at (come start (legs ++ more)).at (versions_of (legs ++ more))
    → (legs ≡ []) ⊎ IsBetween chain start.at (come start legs).at (versions_of legs)
first_part start chain legs more (inl none) = inl (no_legs legs more none)
first_part start chain legs more (inr b) = inr (first_between chain start legs more (come start (legs ++ more)).at b)

at_end : (old new : State) (chain : List Version) (r : Reached) → Agrees old chain → IsFold chain r.at r.tasks → new ≡ ends_at old r → Agrees new chain
at_end old new chain r a f e = subst (λ s. Agrees s chain) (sym e) (by (same_id r.at old.base))
  where
    by : (b : Bool) → Agrees (cond b old (moved r.at [] r.tasks old)) chain
    by true = a
    by false = moved_agrees old chain r.at r.tasks [] a.sound f tt

at_stop : (old new : State) (chain : List Version) (r : Reached) → Agrees old chain → IsFold chain r.at r.tasks → FitAll r.tasks (joined r.left) → new ≡ stands_at old r → Agrees new chain
at_stop old new chain r a f fit e = subst (λ s. Agrees s chain) (sym e) (by (same_id r.at old.base))
  where
    by : (b : Bool) → Agrees (cond b old (moved r.at (pending_on r.tasks r.left) (apply_all r.tasks (joined r.left)) old)) chain
    by true = a
    by false = moved_agrees old chain r.at r.tasks r.left a.sound f fit

stopped_agrees : (old : State) (start : Reached) (new : State) (before after : ServerChain) → IsChain after.chain → Agrees old after.chain → FitsAt after.chain start → IsStopped old start new before after → Agrees new after.chain
stopped_agrees old start new before after whole a at s =
    let r : Reached = come start s.legs in
    let p = path_splits start s.legs s.untold s.went.path in
    at_stop old new after.chain r a (went_folds start after.chain s.legs whole at.folded p.0 (first_part start after.chain s.legs s.untold s.went.between)) (at.fits s.legs p.0) s.state

pub end_agrees : EndAgrees
end_agrees (Done report) old start new before after whole a sound (grows, d) =
    let now : Agrees old after.chain = agrees_is_kept old before.chain after.chain a grows in
    let at : FitsAt after.chain start = fits_at old start after.chain now sound in
    at_end old new after.chain (come start d.legs) now (went_folds start after.chain d.legs whole at.folded d.went.path d.went.between) d.state
end_agrees Stopped old start new before after whole a sound (grows, s) =
    stopped_agrees old start new before after whole (agrees_is_kept old before.chain after.chain a grows) (fits_at old start after.chain (agrees_is_kept old before.chain after.chain a grows) sound) s
end_agrees Unwritten old start new before after whole a sound (grows, k) = subst (λ s. Agrees s after.chain) (sym k.state) (agrees_is_kept old before.chain after.chain a grows)

-- ---- a new replica

-- from wherever its path starts, nothing is left there
new_has_none : (old : State) (start : Reached) (chain : List Version) → IsNewReplica old → StartsSoundly chain old start → start.left ≡ []
new_has_none old start chain fresh (inl is) = ap (λ r. r.left) is ∙ ap groups_of fresh.nothing
new_has_none old start chain fresh (inr s) = ap (λ r. r.left) s.0.is

-- its tasks are the fold, and nothing is left
record IsFoldThere (chain : List Version) (r : Reached) : Type 0 where
  folded : IsFold chain r.at r.tasks
  none : r.left ≡ []

fold_there : (old : State) (chain : List Version) (start : Reached) (legs : List Leg) → IsChain chain → IsNewReplica old → Agrees old chain → IsPathIn chain old start legs → IsFoldThere chain (come start legs)
fold_there old chain start legs whole fresh a p = record {
  folded = went_folds start chain legs whole (fits_at old start chain a p.soundly).folded p.path p.between;
  none = none_left start legs (new_has_none old start chain fresh p.soundly) p.path;
}

-- two such places of one version are apart in what is carried alone
alike : (old : State) (chain : List Version) (r t : Reached) → IsChain chain → IsFoldThere chain r → IsFoldThere chain t → r.at ≡ t.at → (stands_at old r ≡ stands_at old t) × (ends_at old r ≡ ends_at old t)
alike old chain r t whole f g at =
    let tasks : r.tasks ≡ t.tasks = fold_is_one chain t.at r.tasks t.tasks whole (subst (λ (v : List ℕ). IsFold chain v r.tasks) at f.folded) g.folded in
    let left : r.left ≡ t.left = f.none ∙ sym g.none in (
      λ i. stands_at old (record { at = at i; tasks = tasks i; left = left i; carried = [] }),
      λ i. ends_at old (record { at = at i; tasks = tasks i; left = left i; carried = [] }),
    )

pub new_replicas_end_alike : NewReplicasEndAlike
new_replicas_end_alike old chain one two legs more whole fresh a p q at = alike old chain (come one legs) (come two more) whole (fold_there old chain one legs whole fresh a p) (fold_there old chain two more whole fresh a q) at
