-- What a crash leaves of the tasks and of the hours together.
use Rattle.std.proofs.Common.{◌≡◌, ◌⊎◌, inl, inr, ◌∙◌, ap, sym, subst, ℕ, List, ◌++◌, Option, Some, None, Result, Ok, Err}
use Rattle.std.specs.Global.{Vec}
use Rattle.tw_world.specs.Disk.{DiskModel, LeavesOnly}
use Rattle.tw_world.specs.Disk as disk
use Rattle.tw_world.specs.Crash.{CrashModel}
use Rattle.tw_world.specs.Folder.{Files, FolderModel}
use Rattle.tw_world.specs.Source.{SourceModel}
use Rattle.tw_world.specs.Turns.{InTurns, crash_of}
use Rattle.tw_world.specs.Turns.InTurns.{at_rest, first, second}
use Rattle.tw_world.specs.declared.Moment.{Moment}
use Rattle.tw_world.specs.declared.ids.IdWords.{IdWords}
use Rattle.tw_world.proofs.Moments.{CountsNow, OnlyNow, started, weaker}
use Rattle.tw_world.proofs.TurnRules.{turns_weaker}
use Rattle.tw_spawn.specs.Spawner.{SpawnerModel}
use Rattle.tw_state.specs.State.{State}
use Rattle.tw_replica.specs.Opening.{IsOpenedReplica, IsOpening, opened_bodies}
use Rattle.tw_replica.specs.Replica.{OpensTo, OpensToEither, held_state}
use Rattle.tw_replica.specs.Prepared.{prepared_state, step_bodies}
use Rattle.tw_replica.proofs.PreparedWritten.{prepared_leaves}
use Rattle.tw_changes.specs.declared.request.Request.{Request}
use Rattle.timew_store.specs.Held.{Held}
use Rattle.timew_store.specs.Held.{OpensTo as OpenTo}
use Rattle.timew_store.specs.Loading.{OpensAlike}
use Rattle.timew_interval.specs.Edit.{edited}
use Rattle.timew_store.specs.Store.{OpensToChanged, changed, intervals_of}
use Rattle.timew_interval.specs.declared.interval.Interval.{Interval}
use Rattle.timew_store.specs.declared.prepare.PreparedChange.{PreparedChange}
use Rattle.timew_bridge.specs.declared.drivers.Drivers.{Drivers}
use Rattle.timew_bridge.specs.Known.{AreDrivers}
use Rattle.tw_cli.specs.Crash.{next_of}
use Rattle.tw_cli.specs.Driving.{driven, Opens, AreUnopened}
use Rattle.tw_cli.specs.Hooks.{Answered}
use Rattle.tw_cli.specs.Hours.{InPhases, EitherTasks, OldHours, BothNew, InOrder, LeavesDriven}
use Rattle.tw_cli.specs.Input.{WithInput, with_input}
use Rattle.tw_cli.specs.Ready.{IsBefore, IsReadyChange, AreReady, LeavesLoaded, HoursLeave, IsWritten, WriteEnds, WriteLeaves, IsMade, EndsReady, MadeEnds}
use Rattle.tw_cli.specs.declared.carry.Made.{Made}
use Rattle.tw_cli.specs.declared.carry.CarryError.{CarryError}
use Rattle.tw_cli.specs.declared.hours.Before.{Before}
use Rattle.tw_cli.proofs.Carrying.{leads}
use Rattle.tw_cli.proofs.DrivenHours.{both_unopened, alone_after}
use Rattle.tw_cli.proofs.Driven.{written_run}
use Rattle.tw_cli.proofs.LoadedHours.{alike_here, loaded_alike, rows_read, change_leaves}
use Rattle.tw_cli.proofs.Openings.{records_of, opens_to, held_is}

-- whatever a crash leaves of both at the end of a run
turns_end : {A B X Y : Type 0} (m : CrashModel A X) (n : CrashModel B Y) (P : X → Y → Type 0) (a : A) (b : B) (c : A) (d : B) → InTurns m n P a b c d → (x : X) (y : Y) → m.leaves c x → n.leaves d y → P x y
turns_end m n P _ _ _ _ (at_rest a b here) = here
turns_end m n P _ _ _ _ (first a mid b c d moves rest) = turns_end m n P mid b c d rest
turns_end m n P _ _ _ _ (second a b mid c d moves rest) = turns_end m n P a mid c d rest

module _ {D P F J : Type 0} (m : DiskModel D) (only_now : OnlyNow m) (counts_now : CountsNow m) (hooks : SpawnerModel P) (folders : FolderModel F) (tracks : DiskModel J) (request : Request) (ids : IdWords) (d0 mid d1 : D) (p0 p1 : P)
    (f0 f1 : F) (j0 j1 : J) (made : Made) (is : IsMade m hooks request ids d0 mid p0 p1 made) where
  abbrev next : State → Option State
  next s = next_of request ids is.decided.answers s

  answered_in : disk.Tells m d0 → (state : State) → OpensTo (m.seen d0) state → Answered hooks request ids p0 p1 state is.decided.answers
  answered_in tells state opens = subst (λ s. Answered hooks request ids p0 p1 s is.decided.answers) (sym (held_is m d0 mid is.replica state (is.opened tells) opens)) is.decided.answered

  module _ (tells : disk.Tells m d0) (held : Held) (o : Opens folders tracks f0 j0 held) where
    abbrev Order : List ℕ → Files → List ℕ → Type 0
    Order z x y = InOrder m folders tracks request ids is.decided.answers d0 f0 j0 (held_state is.replica) held z x y

    abbrev Either : List ℕ → Type 0
    Either z = EitherTasks m folders tracks request ids is.decided.answers d0 f0 j0 (held_state is.replica) held z

    opened : IsOpenedReplica m d0 mid is.replica
    opened = is.opened tells

    abbrev left : List (List ℕ)
    left = opened_bodies (m.seen d0) (held_state is.replica) opened.bodies

    -- the tasks are those of before, or those of a step
    by_step : (z : List ℕ) → OpensToEither (held_state is.replica) (next (held_state is.replica)) z → Either z
    by_step z e = inr (record { state = held_state is.replica; opened = opens_to m d0 mid is.replica opened; opens = e })

    opens_mid : OpensTo (m.seen mid) (held_state is.replica)
    opens_mid = record { bodies = left; records = records_of m mid is.replica left opened.now; stands = opened.now.stands }

    before_step : (z : List ℕ) → m.leaves mid z → Either z
    before_step z there = by_step z (inl (subst (λ (file : List ℕ). OpensTo file (held_state is.replica)) (sym (opened.now.open_on.rest.settled z there)) opens_mid))

    opening_runs : LeavesOnly m d0 mid (λ z. (x : Files) (y : List ℕ) → folders.leaves f0 x → tracks.leaves j0 y → Order z x y)
    opening_runs = weaker m d0 mid (IsOpening m d0) (λ z. (x : Files) (y : List ℕ) → folders.leaves f0 x → tracks.leaves j0 y → Order z x y) (is.leaves tells)
        (λ z opening x y there there'. inl (inl opening, inl (alike_here folders tracks f0 j0 o.settled x y there there')))

    module _ (fm : F) (jm : J) (loaded : LeavesLoaded folders tracks f0 fm j0 jm) where
      run : InTurns folders (crash_of tracks) (OpensAlike folders tracks f0 j0) f0 j0 fm jm
      run = loaded_alike folders tracks f0 fm j0 jm loaded o.told o.settled o.tells

      load_runs : InTurns folders (crash_of tracks) (λ x y. (z : List ℕ) → m.leaves mid z → Order z x y) f0 j0 fm jm
      load_runs = turns_weaker folders (crash_of tracks) (OpensAlike folders tracks f0 j0) (λ x y. (z : List ℕ) → m.leaves mid z → Order z x y) (λ x y alike z there. inl (before_step z there, inl alike)) f0 j0 fm jm run

      old_hours : (x : Files) (y : List ℕ) → folders.leaves fm x → tracks.leaves jm y → OldHours m folders tracks request ids is.decided.answers d0 f0 j0 (held_state is.replica) held x y
      old_hours x y there there' = inl (turns_end folders (crash_of tracks) (OpensAlike folders tracks f0 j0) f0 j0 fm jm run x y there there')

    -- nothing is written
    pub unready_phases : d1 ≡ mid → LeavesLoaded folders tracks f0 f1 j0 j1 → InPhases m folders tracks Order d0 d1 f0 f1 j0 j1
    unready_phases unwritten loaded = record {
      mid = mid;
      folder = f1;
      track = j1;
      opening = opening_runs;
      loading = load_runs f1 j1 loaded;
      writing = subst (λ (d : D). LeavesOnly m mid d (λ z. (x : Files) (y : List ℕ) → folders.leaves f1 x → tracks.leaves j1 y → Order z x y)) (sym unwritten)
          (started m only_now mid (λ z. (x : Files) (y : List ℕ) → folders.leaves f1 x → tracks.leaves j1 y → Order z x y) (λ z there x y left left'. inl (before_step z there, old_hours f1 j1 loaded x y left left')));
      changing = at_rest f1 j1 (λ x y left left' z there. inl (before_step z (subst (λ (d : D). m.leaves d z) unwritten there), old_hours f1 j1 loaded x y left left'));
    }

    -- the record is written, or refused
    module _ (fm : F) (jm : J) (loaded : LeavesLoaded folders tracks f0 fm j0 jm) (change : PreparedChange) (leaves : WriteLeaves m folders tracks made.ready.prepared mid d1 fm f1 jm j1 (Some change)) where
      record_runs : LeavesOnly m mid d1 (OpensToEither (held_state is.replica) (next (held_state is.replica)))
      record_runs = subst (λ (n : Option State). LeavesOnly m mid d1 (OpensToEither (held_state is.replica) n)) (leads m hooks request ids d0 mid p0 p1 is.replica is.opened d1 made.ready is.decided)
          (prepared_leaves m is.replica is.decided.decided.step made.ready.prepared is.decided.decided.prepared left mid d1 opened.now leaves.disk)

      write_runs : LeavesOnly m mid d1 (λ z. (x : Files) (y : List ℕ) → folders.leaves fm x → tracks.leaves jm y → Order z x y)
      write_runs = weaker m mid d1 (OpensToEither (held_state is.replica) (next (held_state is.replica))) (λ z. (x : Files) (y : List ℕ) → folders.leaves fm x → tracks.leaves jm y → Order z x y) record_runs
          (λ z e x y there there'. inl (by_step z e, old_hours fm jm loaded x y there there'))

      after_step : (z : List ℕ) → m.leaves d1 z → Either z
      after_step z there = by_step z (record_runs.each z (counts_now d1 (m.moment mid) z record_runs.later there))

      resting : AreUnopened folders tracks fm f1 jm j1 → InTurns folders (crash_of tracks) (λ x y. (z : List ℕ) → m.leaves d1 z → Order z x y) fm jm f1 j1
      resting same =
          subst (λ (f : F). InTurns folders (crash_of tracks) (λ x y. (z : List ℕ) → m.leaves d1 z → Order z x y) fm jm f j1) (sym same.0)
          (subst (λ (j : J). InTurns folders (crash_of tracks) (λ x y. (z : List ℕ) → m.leaves d1 z → Order z x y) fm jm fm j) (sym same.1)
          (at_rest fm jm (λ x y there there' z left. inl (after_step z left, old_hours fm jm loaded x y there there'))))

      module _ (b : Drivers) (ready : IsReadyChange folders tracks made.at.seconds b (prepared_state made.ready.prepared).tasks f0 fm j0 jm change) (are : AreDrivers (held_state is.replica).tasks request.at.seconds b)
          (written : IsWritten m made.ready.prepared mid d1) where
        abbrev make_rows : List Interval → List Interval
        make_rows rows = driven (held_state is.replica).tasks (prepared_state made.ready.prepared).tasks rows request.at.seconds

        rows_are : edited ready.edit (intervals_of ready.store) ≡ make_rows (intervals_of ready.store)
        rows_are =
            ready.rows (held_state is.replica).tasks (subst (λ (t : ℕ). AreDrivers (held_state is.replica).tasks t b) (sym (ap (λ (t : Moment). t.seconds) is.at)) are)
            ∙ ap (λ (t : ℕ). driven (held_state is.replica).tasks (prepared_state made.ready.prepared).tasks (intervals_of ready.store) t) (ap (λ (t : Moment). t.seconds) is.at)

        leads_new : next (held_state is.replica) ≡ Some (prepared_state made.ready.prepared)
        leads_new = sym (leads m hooks request ids d0 mid p0 p1 is.replica is.opened d1 made.ready is.decided) ∙ is.decided.decided.prepared.leads

        new_tasks : (z : List ℕ) → m.leaves d1 z → OpensTo z (prepared_state made.ready.prepared)
        new_tasks z there =
            let r = written_run m hooks folders tracks request ids d0 mid d1 p0 p1 f0 f1 j0 j1 made is written in
            let on = r.0.disk tells in
            subst (λ (s : State). OpensTo z s) (sym r.3)
            (subst (λ (file : List ℕ). OpensTo file r.0.carried.new) (sym (on.1 z there))
            (record { bodies = opened_bodies (m.seen d0) r.0.old on.0.bodies ++ step_bodies r.0.carried.step; records = on.0.has; stands = on.0.stands }))

        in_order : (x : Files) (y : List ℕ) → OpensToChanged held (make_rows (intervals_of ready.store)) x y → (z : List ℕ) → m.leaves d1 z → Order z x y
        in_order x y (inl before) z there = inl (by_step z (subst (λ (n : Option State). OpensToEither (held_state is.replica) n z) (sym leads_new) (inr (new_tasks z there))), inr before)
        in_order x y (inr after) z there = inr (both_new after)
          where
            both_new : OpenTo x y (changed held (make_rows (intervals_of ready.store))) → BothNew m folders tracks request ids is.decided.answers d0 f0 j0 (held_state is.replica) held z x y
            both_new after = record {
              new = prepared_state made.ready.prepared;
              leads = leads_new;
              tasks = new_tasks z there;
              rows = intervals_of ready.store;
              read = rows_read folders tracks ready.store f0 fm j0 jm ready.loads held o;
              hours = after;
            }

        change_runs : HoursLeave folders tracks fm f1 jm j1 (Some change) → InTurns folders (crash_of tracks) (λ x y. (z : List ℕ) → m.leaves d1 z → Order z x y) fm jm f1 j1
        change_runs after =
            turns_weaker folders (crash_of tracks) (OpensToChanged held (make_rows (intervals_of ready.store))) (λ x y. (z : List ℕ) → m.leaves d1 z → Order z x y) in_order fm jm f1 j1
            (change_leaves folders tracks ready.store f0 fm j0 jm ready.loads held o ready.edit change ready.prepared make_rows rows_are f1 j1 after)

      pub ready_phases : (b : Drivers) → IsReadyChange folders tracks made.at.seconds b (prepared_state made.ready.prepared).tasks f0 fm j0 jm change → AreDrivers (held_state is.replica).tasks request.at.seconds b
          → InPhases m folders tracks (InOrder m folders tracks request ids is.decided.answers d0 f0 j0 (held_state is.replica) held) d0 d1 f0 f1 j0 j1
      ready_phases b ready are = record {
        mid = mid;
        folder = fm;
        track = jm;
        opening = opening_runs;
        loading = load_runs fm jm loaded;
        writing = write_runs;
        changing = by leaves.hours_after;
      }
        where
          by : AreUnopened folders tracks fm f1 jm j1 ⊎ (IsWritten m made.ready.prepared mid d1 × HoursLeave folders tracks fm f1 jm j1 (Some change)) → InTurns folders (crash_of tracks) (λ x y. (z : List ℕ) → m.leaves d1 z → Order z x y) fm jm f1 j1
          by (inl same) = resting same
          by (inr then) = change_runs b ready are then.0 then.1

  -- a command that opened the hours
  driven_leaves : ((tells : disk.Tells m d0) (held : Held) → Opens folders tracks f0 j0 held → InPhases m folders tracks (InOrder m folders tracks request ids is.decided.answers d0 f0 j0 (held_state is.replica) held) d0 d1 f0 f1 j0 j1)
      → LeavesDriven m folders tracks hooks request ids d0 d1 p0 p1 f0 f1 j0 j1
  driven_leaves phases = record {
    answers = is.decided.answers;
    answered = answered_in;
    leaves = λ tells old opens held o.
        subst (λ (s : State). InPhases m folders tracks (InOrder m folders tracks request ids is.decided.answers d0 f0 j0 s held) d0 d1 f0 f1 j0 j1) (sym (held_is m d0 mid is.replica old (is.opened tells) opens)) (phases tells held o);
  }

  abbrev Left : Type 0
  Left = AreUnopened folders tracks f0 f1 j0 j1 ⊎ LeavesDriven m folders tracks hooks request ids d0 d1 p0 p1 f0 f1 j0 j1

  left_ready : (before : Option Before) → IsBefore request (held_state is.replica) before → (fm : F) (jm : J) (hours : Option PreparedChange) → AreReady folders tracks made.at.seconds before (prepared_state made.ready.prepared) f0 fm j0 jm hours
      → LeavesLoaded folders tracks f0 fm j0 jm → (error : Option CarryError) → WriteEnds m folders tracks made.ready.prepared mid d1 fm f1 jm j1 hours error → WriteLeaves m folders tracks made.ready.prepared mid d1 fm f1 jm j1 hours → Left
  left_ready None b fm jm None ready loaded error ends leaves = inl (both_unopened folders tracks f0 fm f1 j0 jm j1 ready (alone_after m folders tracks made.ready.prepared mid d1 fm f1 jm j1 error ends))
  left_ready None b fm jm (Some change) ready loaded error ends leaves = absurd ready
  left_ready (Some x) b fm jm None ready loaded error ends leaves = inl (both_unopened folders tracks f0 fm f1 j0 jm j1 ready.1 (alone_after m folders tracks made.ready.prepared mid d1 fm f1 jm j1 error ends))
  left_ready (Some x) b fm jm (Some change) ready loaded error ends leaves = inr (driven_leaves (λ tells held o. ready_phases tells held o fm jm loaded change leaves x.drivers ready.1 b.1))

  ended_ready : (error : Option CarryError) → EndsReady m folders tracks made mid d1 f0 f1 j0 j1 error → Left
  ended_ready error r = left_ready made.before is.before r.mid r.track r.hours r.ready r.loaded error r.ends r.leaves

  pub both_left : (result : Result (Vec ℕ) CarryError) → MadeEnds m folders tracks made mid d1 f0 f1 j0 j1 result → Left
  both_left (Ok text) ends = ended_ready None ends.1
  both_left (Err e) (inr r) = ended_ready (Some e) r
  both_left (Err e) (inl u) = inr (driven_leaves (λ tells held o. unready_phases tells held o u.disk u.leaves))

-- the same of a request, whatever input it takes
pub made_moments : {D S P F J : Type 0} (m : DiskModel D) → OnlyNow m → CountsNow m → (sources : SourceModel S) (hooks : SpawnerModel P) (folders : FolderModel F) (tracks : DiskModel J) (request : Request) (ids : IdWords) (d0 mid d1 : D) (i0 i1 : S) (p0 p1 : P)
    (f0 f1 : F) (j0 j1 : J) (made : Made) → WithInput sources request i0 i1 (λ r. IsMade m hooks r ids d0 mid p0 p1 made) → (result : Result (Vec ℕ) CarryError) → MadeEnds m folders tracks made mid d1 f0 f1 j0 j1 result
    → AreUnopened folders tracks f0 f1 j0 j1 ⊎ WithInput sources request i0 i1 (λ r. LeavesDriven m folders tracks hooks r ids d0 d1 p0 p1 f0 f1 j0 j1)
made_moments m only_now counts_now sources hooks folders tracks request ids d0 mid d1 i0 i1 p0 p1 f0 f1 j0 j1 made with result ends =
    by (both_left m only_now counts_now hooks folders tracks (with_input request with.0) ids d0 mid d1 p0 p1 f0 f1 j0 j1 made with.2 result ends)
  where
    by : AreUnopened folders tracks f0 f1 j0 j1 ⊎ LeavesDriven m folders tracks hooks (with_input request with.0) ids d0 d1 p0 p1 f0 f1 j0 j1
        → AreUnopened folders tracks f0 f1 j0 j1 ⊎ WithInput sources request i0 i1 (λ r. LeavesDriven m folders tracks hooks r ids d0 d1 p0 p1 f0 f1 j0 j1)
    by (inl same) = inl same
    by (inr driven) = inr (with.0, with.1, driven)
