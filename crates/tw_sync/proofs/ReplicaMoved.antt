-- A replica is moved to the place where a sync is done, or is stopped.
use Rattle.std.proofs.Common.{◌≡◌, ◌⊎◌, ℕ, ◌+◌, ◌-◌, ◌≤◌, inl, inr, Bool, true, false, cond, length, List, [], Option, Some, None, refl, sym, ap, subst, ◌∙◌, arith, length-append}
use Rattle.std.proofs.lemmas.Bool.{true≢false}
use Rattle.std.proofs.lemmas.Cmp.{nat_list_eq_equiv}
use Rattle.tw_world.specs.Disk.{DiskModel, LeavesOnly}
use Rattle.tw_model.specs.Ops.{TasksValue, apply_all}
use Rattle.tw_model.specs.LocalOps.{plain}
use Rattle.tw_protocol.specs.Chain.{Version, same_id}
use Rattle.tw_bodies.specs.Body.{Step}
use Rattle.tw_state.specs.State.{State, at_base, applied}
use Rattle.tw_state.proofs.Soundness.{checkpoint_leads}
use Rattle.tw_state.specs.Sound.{IsSound}
use Rattle.tw_state.specs.Core.{state_of}
use Rattle.tw_replica.specs.Replica.{IsReplicaOn, IsSame, OpensToEither}
use Rattle.tw_replica.specs.declared.replica.Replica.{Replica}
use Rattle.tw_groups.specs.Groups.{joined, parts_of, groups_of, pending_on}
use Rattle.tw_groups.specs.Held.{groups_in}
use Rattle.tw_groups.proofs.Grouping.{groups_hold_all}
use Rattle.tw_path.specs.Path.{Reached, Leg, IsPath, sent_of}
use Rattle.tw_path.proofs.Counting.{path_counts}
use Rattle.tw_outcome.specs.Start.{starts_at, IsNewReplica, FromSnapshot, StartsSoundly}
use Rattle.tw_outcome.specs.End.{ServerChain, Answer, moved}
use Rattle.tw_outcome.proofs.Ends.{done_is_carried, stopped_is_partly, at_base_sound, snapshot_leads_on}
use Rattle.tw_sync.specs.Start.{Start, from_state, MayStart, IsSoundStart, LeadsTo}
use Rattle.tw_sync.specs.Start.Start.{Base, Snapshot}
use Rattle.tw_sync.specs.Ends.End.{EndFrom}
use Rattle.tw_sync.specs.Sync.{IsEndStep, RecordsOfSync, IsEndIn, IsSyncOf}
use Rattle.tw_sync.specs.Way.Cursor.{place, IsOnPath, LiesIn}
use Rattle.tw_sync.specs.Ends.Moved.{done_by, stopped_by, moved_by, IsMovedTo, MovesBy}
use Rattle.tw_sync.specs.declared.cursor.Cursor.{Cursor}
use Rattle.tw_sync.proofs.LeftIsSent.{none_is}

-- ---- counts

-- no more is sent and left than was pending
within : (state : State) (legs : List Leg) (cursor : Cursor) → IsOnPath state legs cursor → sent_of legs + length (joined (place state legs).left) ≤ length (plain state.pending)
within state legs cursor s =
    let a = path_counts (starts_at state) legs s.path in
    let b = ap length (groups_hold_all state.pending) in
    let c = length-append (parts_of state.pending).0 (joined (groups_of state.pending)) in
    omega (arith, a, b, c)

-- the report counts what is pushed on the path
pub pushed_is : (state : State) (legs : List Leg) (cursor : Cursor) → IsOnPath state legs cursor → cursor.pending - cursor.unsent ≡ sent_of legs
pushed_is state legs cursor s = let a = within state legs cursor s in let p = s.pending in let u = s.unsent in omega (arith, a, p, u)

pub dropped_is : (state : State) (legs : List Leg) (cursor : Cursor) → IsOnPath state legs cursor → cursor.unsent + (cursor.pending - cursor.unsent) ≡ length (plain state.pending)
dropped_is state legs cursor s = let a = within state legs cursor s in let p = s.pending in let u = s.unsent in omega (arith, a, p, u)

-- if as many are sent as were pending, or no group holds an operation, nothing is left
pub nothing_left : (state : State) (legs : List Leg) (cursor : Cursor) → IsOnPath state legs cursor → (cursor.unsent ≡ 0) ⊎ (joined (groups_in cursor.walker.left.items) ≡ []) → joined (place state legs).left ≡ []
nothing_left state legs cursor s (inl none) = none_is (joined (place state legs).left) (let a = within state legs cursor s in let b = s.unsent in omega (arith, a, b, none))
nothing_left state legs cursor s (inr none) = ap joined (sym s.stands.left) ∙ none

-- ---- the state after it

-- the state after a move
abbrev pub IsStateAfter : Option State → (old new : State) → Type 0
IsStateAfter None old new = new ≡ old
IsStateAfter (Some next) old new = new ≡ next

pub apart : (a b : List ℕ) → same_id a b ≡ false → ¬ (a ≡ b)
apart a b e same = true≢false (sym (nat_list_eq_equiv.refl a) ∙ ap (λ x. same_id a x) same ∙ e)

-- a step to a version
module _ (start : Start) (state s : State) (at : List ℕ) (step : Step) (end : IsEndStep start state s step) where
  by_leads : moved_by at step state ≡ cond (same_id at state.base) None (Some s)
  by_leads = ap (λ (o : Option State). cond (same_id at state.base) None o) end.leads

  pub state_is : (new : State) → IsStateAfter (moved_by at step state) state new → new ≡ cond (same_id at state.base) state s
  state_is new after = by (same_id at state.base) (subst (λ (o : Option State). IsStateAfter o state new) by_leads after)
    where
      by : (b : Bool) → IsStateAfter (cond b None (Some s)) state new → new ≡ cond b state s
      by true is = is
      by false is = is

  pub moved_is_sync : IsSyncOf start state (moved_by at step state)
  moved_is_sync = subst (IsSyncOf start state) (sym by_leads) (by (same_id at state.base))
    where
      by : (b : Bool) → IsSyncOf start state (cond b None (Some s))
      by true = tt
      by false = (step, end)

  -- the one state that the disk may open to besides the old one
  pub end_in : (before after : ServerChain) (answer : Answer) → ((next : State) → next ≡ cond (same_id at state.base) state s → EndFrom answer start state next before after) → IsEndIn start state before after (moved_by at step state)
  end_in before after answer ends = subst (IsEndIn start state before after) (sym by_leads) (by (same_id at state.base) ends)
    where
      by : (b : Bool) → ((next : State) → next ≡ cond b state s → EndFrom answer start state next before after) → IsEndIn start state before after (cond b None (Some s))
      by true ends = tt
      by false ends = (answer, ends s refl)

moved_state : {D : Type 0} (m : DiskModel D) (old new : Replica) (before after : D) (step : Step) (o : Option State) → IsMovedTo m old new before after step o → IsStateAfter o (state_of old.core) (state_of new.core)
moved_state m old new before after step None same = same.state
moved_state m old new before after step (Some next) moves = moves.0

pub moved_to : {D : Type 0} (m : DiskModel D) (old new : Replica) (before after : D) (at : List ℕ) (step : Step) → MovesBy m old new before after at step → IsStateAfter (moved_by at step (state_of old.core)) (state_of old.core) (state_of new.core)
moved_to m old new before after at step moves = moved_state m old new before after step (moved_by at step (state_of old.core)) moves

-- ---- the step of a sync that is done, and of one that is stopped

-- the state from which a sync goes is sound
pub from_sound : (start : Start) (old : State) → IsSound old → IsSound (from_state start old)
from_sound Base old sound = sound
from_sound (Snapshot version tasks) old sound = at_base_sound old version tasks sound

-- as much is pending there
pub from_pending : (start : Start) (old : State) → MayStart start old → (from_state start old).pending ≡ old.pending
from_pending Base old may = refl
from_pending (Snapshot version tasks) old may = sym may.nothing

-- on a path from a snapshot nothing is left, and what is carried leads to its tasks
from_snapshot : (old : State) (version : List ℕ) (tasks : TasksValue) → IsNewReplica old → FromSnapshot old (starts_at (at_base version tasks old))
from_snapshot old version tasks fresh = record { fresh = fresh; version = version; tasks = tasks; is = refl }

pub leads_to : (start : Start) (old : State) (legs : List Leg) → MayStart start old → IsPath (starts_at (from_state start old)) legs → LeadsTo start (place (from_state start old) legs)
leads_to Base old legs may path = tt
leads_to (Snapshot version tasks) old legs may path = (snapshot_leads_on old (starts_at (at_base version tasks old)) legs (from_snapshot old version tasks may) path).tasks

-- it starts soundly from a sound snapshot
pub starts_soundly : (start : Start) (old : State) (chain : List Version) → MayStart start old → IsSoundStart start chain → StartsSoundly chain old (starts_at (from_state start old))
starts_soundly Base old chain may fold = inl refl
starts_soundly (Snapshot version tasks) old chain may fold = inr (from_snapshot old version tasks may, fold)

-- where it is done, and where it is stopped
abbrev pub done_state : State → Reached → State
done_state old r = moved r.at [] r.tasks old

abbrev pub stopped_state : State → Reached → State
stopped_state old r = moved r.at (pending_on r.tasks r.left) (apply_all r.tasks (joined r.left)) old

module _ (old : State) (sound : IsSound old) where
  pub done_leads : (start : Start) (legs : List Leg) → MayStart start old → IsPath (starts_at (from_state start old)) legs → joined (place (from_state start old) legs).left ≡ []
      → applied old (done_by start old (place (from_state start old) legs)) ≡ Some (done_state old (place (from_state start old) legs))
  done_leads Base legs may path nothing = done_is_carried old legs sound path nothing
  done_leads (Snapshot version tasks) legs may path nothing =
      let r : Reached = place (at_base version tasks old) legs in checkpoint_leads old (done_state old r) (at_base_sound old r.at r.tasks sound)

  pub stopped_leads : (start : Start) (legs : List Leg) → MayStart start old → IsPath (starts_at (from_state start old)) legs
      → applied old (stopped_by start old (place (from_state start old) legs)) ≡ Some (stopped_state old (place (from_state start old) legs))
  stopped_leads Base legs may path = (stopped_is_partly old legs sound path).1
  stopped_leads (Snapshot version tasks) legs may path =
      let r : Reached = place (at_base version tasks old) legs in
      let none : r.left ≡ [] = (snapshot_leads_on old (starts_at (at_base version tasks old)) legs (from_snapshot old version tasks may) path).left in
      checkpoint_leads old (done_state old r) (at_base_sound old r.at r.tasks sound)
      ∙ ap (λ gs. Some (moved r.at (pending_on r.tasks gs) (apply_all r.tasks (joined gs)) old)) (sym none)

  abbrev pub done_end : (start : Start) (legs : List Leg) → MayStart start old → IsPath (starts_at (from_state start old)) legs → joined (place (from_state start old) legs).left ≡ []
      → IsEndStep start old (done_state old (place (from_state start old) legs)) (done_by start old (place (from_state start old) legs))
  done_end start legs may path nothing = record { may = may; legs = legs; path = path; goes_there = inl (nothing, refl); leads = done_leads start legs may path nothing }

  abbrev pub stopped_end : (start : Start) (legs : List Leg) → MayStart start old → IsPath (starts_at (from_state start old)) legs
      → IsEndStep start old (stopped_state old (place (from_state start old) legs)) (stopped_by start old (place (from_state start old) legs))
  stopped_end start legs may path = record { may = may; legs = legs; path = path; goes_there = inr refl; leads = stopped_leads start legs may path }

-- ---- its record

module _ {D : Type 0} (m : DiskModel D) (old new : Replica) (before after : D) (start : Start) (s : State) (at : List ℕ) (step : Step) (end : IsEndStep start (state_of old.core) s step) (at_is : s.base ≡ at) (moves : MovesBy m old new before after at step) where
  by_moved : IsMovedTo m old new before after step (cond (same_id at old.core.base) None (Some s))
  by_moved = subst (IsMovedTo m old new before after step) (by_leads start (state_of old.core) s at step end) moves

  -- if its base stays so does all
  pub stays_same : new.core.base ≡ old.core.base → IsSame old new before after
  stays_same stays = by (same_id at old.core.base) refl by_moved
    where
      by : (b : Bool) → same_id at old.core.base ≡ b → IsMovedTo m old new before after step (cond b None (Some s)) → IsSame old new before after
      by true e same = same
      by false e there = absurd (apart at old.core.base e (sym at_is ∙ sym (ap (λ (t : State). t.base) there.0) ∙ stays))

  pub records_are : (Goes : Start → State → Reached → Step → Type 0) → Goes start (state_of old.core) (place (from_state start (state_of old.core)) end.legs) step → (honest : Type 0) (chain : List Version) → (honest → LiesIn (from_state start (state_of old.core)) chain end.legs) → (bodies : List (List ℕ)) → IsReplicaOn m old before bodies
      → LeavesOnly m before after (OpensToEither (state_of old.core) (moved_by at step (state_of old.core))) → RecordsOfSync m Goes start old new before after honest chain bodies
  records_are Goes goes honest chain lies bodies on leaves = by (same_id at old.core.base) refl by_moved (subst (λ (o : Option State). LeavesOnly m before after (OpensToEither (state_of old.core) o)) (by_leads start (state_of old.core) s at step end) leaves)
    where
      by : (b : Bool) → same_id at old.core.base ≡ b → IsMovedTo m old new before after step (cond b None (Some s)) → LeavesOnly m before after (OpensToEither (state_of old.core) (cond b None (Some s))) → RecordsOfSync m Goes start old new before after honest chain bodies
      by true e same run = inl (record { base = ap (λ (t : State). t.base) same.state; same = same })
      by false e there run = inr (record {
        moved = λ stays. apart at old.core.base e (sym at_is ∙ sym (ap (λ (t : State). t.base) there.0) ∙ stays);
        step = step;
        end = record { may = end.may; legs = end.legs; path = end.path; goes_there = end.goes_there; leads = end.leads ∙ ap Some (sym there.0) };
        goes = goes;
        lies = lies;
        within = there.2;
        on = there.1 bodies on;
        leaves = subst (λ t. LeavesOnly m before after (OpensToEither (state_of old.core) (Some t))) (sym there.0) run;
      })
