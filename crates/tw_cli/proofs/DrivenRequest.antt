-- What is known of a request once its command is made, whatever input it takes.
use Rattle.std.proofs.Common.{◌≡◌, ◌⊎◌, inl, inr, ◌∙◌, ap, sym, subst, refl, ℕ, List, length, true, false, Option, Some, None, Result, Ok, Err, IfOk, IfErr}
use Rattle.std.specs.Global.{Vec}
use Rattle.tw_world.specs.Disk.{DiskModel, FaultsRise}
use Rattle.tw_world.specs.Folder.{FolderModel}
use Rattle.tw_world.specs.Source.{SourceModel}
use Rattle.tw_world.specs.declared.Moment.{Moment}
use Rattle.tw_world.specs.declared.ids.IdWords.{IdWords}
use Rattle.tw_spawn.specs.Spawner.{SpawnerModel}
use Rattle.tw_model.specs.Ops.{TasksValue}
use Rattle.tw_state.specs.State.{State}
use Rattle.tw_replica.specs.Replica.{held_state}
use Rattle.tw_replica.specs.Replica.{LeavesRecords as LeavesAny}
use Rattle.tw_replica.specs.Prepared.{prepared_state, prepared_bodies, RecordsOrAll, IsLengthReady}
use Rattle.tw_journal.specs.Journal.{is_closed, journal_end}
use Rattle.tw_journal.specs.declared.journal.Journal.{Journal}
use Rattle.tw_changes.specs.declared.request.Request.{Request}
use Rattle.tw_journal.specs.declared.error.JournalError.TheVariants as journal
use Rattle.tw_replica.specs.Replica.{OpeningRefused}
use Rattle.tw_replica.specs.declared.error.OpenError.{OpenError}
use Rattle.tw_replica.specs.declared.error.OpenError.TheVariants as opening
use Rattle.tw_changes.specs.declared.refusal.Refusal.{Refusal}
use Rattle.tw_changes.specs.declared.refusal.Refusal.TheVariants as refusal
use Rattle.tw_hooks.specs.declared.error.HookError.{HookError}
use Rattle.tw_hooks.specs.declared.error.HookError.TheVariants as hook
use Rattle.tw_cli.specs.declared.input.InputError.{InputError}
use Rattle.tw_cli.specs.declared.input.InputError.TheVariants as input
use Rattle.timew_store.specs.Loading.{Stays as HoursStay, LeavesAlike}
use Rattle.timew_store.specs.Store.{LoadRefused, LoadSparesDisk}
use Rattle.timew_store.specs.declared.prepare.PreparedChange.{PreparedChange}
use Rattle.timew_store.specs.declared.error.LoadError.{LoadError}
use Rattle.timew_store.specs.declared.error.LoadError.TheVariants as load
use Rattle.timew_store.proofs.Stays.{MayStay, DiskMayStay}
use Rattle.timew_bridge.specs.Known.{AreDrivers}
use Rattle.tw_cli.specs.Cause.{end_of, may_write, open_cause, input_cause, refusal_cause, hook_cause, load_cause, carry_cause, ended}
use Rattle.tw_cli.specs.Crash.{LeavesRecords, LeavesCommand}
use Rattle.tw_cli.specs.Driving.{driven_size, is_driving, AreUnopened}
use Rattle.tw_cli.specs.Hours.{FailsLater, HoursCan, HoursBy, HoursBecause}
use Rattle.tw_cli.specs.Input.{WithInput, with_input}
use Rattle.tw_cli.specs.Opening.{Stays}
use Rattle.tw_cli.specs.Ready.{IsBefore, SparesHours, LeadsFrom, KnowsTasks, LeavesLoaded, AreReady, HoursRefused, HoursEnd, IsMade, EndsUnready, EndsReady, MadeEnds}
use Rattle.tw_cli.specs.Run.{CarriedOut, HeldBack, CanCarryOut, NotCarried, Shows}
use Rattle.tw_cli.specs.declared.carry.Made.{Made}
use Rattle.tw_cli.specs.declared.carry.CarryError.{CarryError}
use Rattle.tw_cli.specs.declared.carry.CarryError.TheVariants as carry
use Rattle.tw_cli.specs.declared.hours.Before.{Before}
use Rattle.tw_cli.specs.declared.cause.Cause.{Cause}
use Rattle.tw_cli.specs.declared.cause.Cause.TheVariants as causes
use Rattle.tw_cli.proofs.LoadedHours.{loaded_alike}
use Rattle.tw_cli.proofs.Carrying.{held_back, passes_limit, has_answers, leaves_written}
use Rattle.tw_cli.proofs.Endings.{carry_fails}
use Rattle.tw_cli.proofs.Openings.{rose_later, opens_to, stays_open}
use Rattle.tw_cli.proofs.Taking.{took_same}
use Rattle.tw_cli.proofs.Leading.{carried_leads}
use Rattle.tw_cli.proofs.Driven.{written_run, hours_done, hours_failed, spares_hours, failed_wants}

module _ {D S P F J : Type 0} (m : DiskModel D) (sources : SourceModel S) (hooks : SpawnerModel P) (folders : FolderModel F) (tracks : DiskModel J) (request : Request) (ids : IdWords) (d0 mid d1 : D) (i0 i1 : S) (p0 p1 : P) (f0 f1 : F) (j0 j1 : J)
    (made : Made) (with : WithInput sources request i0 i1 (λ r. IsMade m hooks r ids d0 mid p0 p1 made)) (kept : FaultsRise m d0 mid) where
  abbrev taken : Request
  taken = with_input request with.0

  abbrev Fails : CarryError → Type 0
  Fails e = EndsUnready m folders tracks made mid d1 f0 f1 j0 j1 e ⊎ EndsReady m folders tracks made mid d1 f0 f1 j0 j1 (Some e)

  abbrev Ends : Result (Vec ℕ) CarryError → Type 0
  Ends result = MadeEnds m folders tracks made mid d1 f0 f1 j0 j1 result

  -- it can be written
  pub made_ready : IsLengthReady m made.ready.prepared mid
  made_ready = subst (λ (j : Journal). is_closed j ≡ false → m.len mid ≡ journal_end j) (sym with.2.decided.decided.prepared.journal) with.2.length

  pub made_live : is_closed made.ready.prepared.journal ≡ false
  made_live = ap is_closed with.2.decided.decided.prepared.journal ∙ with.2.live

  pub made_knows : KnowsTasks made.at.seconds made.before (prepared_state made.ready.prepared)
  made_knows = by made.before with.2.before
    where
      old : State
      old = held_state with.2.replica

      new : State
      new = prepared_state made.ready.prepared

      leads : LeadsFrom old.tasks (length old.pending) new
      leads = carried_leads taken ids with.2.decided.answers old (record { step = with.2.decided.decided.step; new = new; text = made.ready.text.items }) with.2.decided.decided.is

      by : (before : Option Before) → IsBefore taken old before → KnowsTasks made.at.seconds before new
      by None b = tt
      by (Some x) b = (
        old.tasks,
        subst (λ (t : ℕ). AreDrivers old.tasks t x.drivers) (sym (ap (λ (t : Moment). t.seconds) with.2.at)) b.1,
        subst (λ (n : ℕ). LeadsFrom old.tasks n new) (sym b.2) leads,
      )

  pub made_shows : (result : Result (Vec ℕ) CarryError) → Ends result → IfOk result (λ text. Shows m sources hooks request ids d0 d1 i0 i1 p0 p1 text.items)
  made_shows (Err e) ends = tt
  made_shows (Ok text) ends =
      let r = written_run m hooks folders tracks taken ids d0 mid d1 p0 p1 f0 f1 j0 j1 made with.2 ends.1.ends.0 in
      (with.0, with.1, (r.0, ends.0 ∙ r.1))

  still_open : d1 ≡ mid → Stays m d0 d1 (held_state with.2.replica)
  still_open same = subst (λ (d : D). Stays m d0 d (held_state with.2.replica)) (sym same) (stays_open m d0 mid with.2.replica with.2.opened)

  made_stays : d1 ≡ mid → (state : State) × Stays m d0 d1 state
  made_stays same = (held_state with.2.replica, still_open same)

  made_held : d1 ≡ mid → HeldBack m hooks taken ids d0 d1 p0 p1
  made_held same = held_back m hooks taken ids d0 mid p0 p1 with.2.replica with.2.opened d1 made.ready with.2.decided same

  unready_not : (before : Option Before) (now : ℕ) (tasks : TasksValue) (e : CarryError) → HoursRefused folders tracks f0 f1 j0 j1 now before tasks e → d1 ≡ mid → NotCarried m sources hooks request ids d0 d1 i0 i1 p0 p1 e
  unready_not None now tasks e r same = absurd r
  unready_not (Some b) now tasks (carry.Load e) r same = (with.0, with.1, made_held same)
  unready_not (Some b) now tasks (carry.HoursTooLong bytes) r same = (r.above, (with.0, with.1, made_held same))
  unready_not (Some b) now tasks carry.Memory r same = (
    made_stays same,
    inr (
      with.0,
      with.1,
      record {
        state = held_state with.2.replica;
        opens = λ tells. opens_to m d0 mid with.2.replica (with.2.opened tells);
        asked = inl (with.2.decided.answers, with.2.decided.answered);
      },
    ),
  )
  unready_not (Some b) now tasks (carry.Open e) r same = absurd r
  unready_not (Some b) now tasks (carry.Input e) r same = absurd r
  unready_not (Some b) now tasks (carry.Refused e) r same = absurd r
  unready_not (Some b) now tasks (carry.Hook e) r same = absurd r
  unready_not (Some b) now tasks (carry.TooLong bytes) r same = absurd r
  unready_not (Some b) now tasks carry.Disk r same = absurd r
  unready_not (Some b) now tasks carry.Track r same = absurd r

  ready_not : (e : CarryError) → EndsReady m folders tracks made mid d1 f0 f1 j0 j1 (Some e) → NotCarried m sources hooks request ids d0 d1 i0 i1 p0 p1 e
  ready_not carry.Track r = (with.0, with.1, (written_run m hooks folders tracks taken ids d0 mid d1 p0 p1 f0 f1 j0 j1 made with.2 r.ends.0).0)
  ready_not carry.Disk r = (
    rose_later (m.faults d0) (m.faults mid) (m.faults d1) kept.faults r.ends.0,
    (with.0, with.1, has_answers m hooks taken ids d0 mid p0 p1 with.2.replica with.2.opened d1 made.ready with.2.decided),
  )
  ready_not (carry.TooLong bytes) r = (with.0, with.1, passes_limit m hooks taken ids d0 mid p0 p1 with.2.replica with.2.opened d1 made.ready with.2.decided bytes r.ends.0)
  ready_not (carry.Open e) r = absurd r.ends
  ready_not (carry.Input e) r = absurd r.ends
  ready_not (carry.Refused e) r = absurd r.ends
  ready_not (carry.Hook e) r = absurd r.ends
  ready_not carry.Memory r = absurd r.ends
  ready_not (carry.Load e) r = absurd r.ends
  ready_not (carry.HoursTooLong bytes) r = absurd r.ends

  pub made_refused : (result : Result (Vec ℕ) CarryError) → Ends result → IfErr result (NotCarried m sources hooks request ids d0 d1 i0 i1 p0 p1)
  made_refused (Ok text) ends = tt
  made_refused (Err e) (inl u) = unready_not made.before made.at.seconds (prepared_state made.ready.prepared).tasks e u.refused u.disk
  made_refused (Err e) (inr r) = ready_not e r

  pub made_wants : (result : Result (Vec ℕ) CarryError) → Ends result
      → IfErr result (λ e. (can : CanCarryOut m sources hooks request ids d0 d1 i0 i1 p0 p1) → HoursCan folders tracks can f0 f1 j0 j1 → carry_cause e ≡ causes.Memory)
  made_wants (Ok text) ends = tt
  made_wants (Err e) ends = λ can well.
      let same : with.0 ≡ can.bytes = took_same sources i0 i1 request.command with.0 can.bytes with.1 can.takes in
      failed_wants m hooks folders tracks (with_input request can.bytes) ids d0 mid d1 p0 p1 f0 f1 j0 j1 made
      (subst (λ (b : List ℕ). IsMade m hooks (with_input request b) ids d0 mid p0 p1 made) same with.2) can.can well kept e ends

  -- what a crash leaves of the tasks
  pub after_write : (cause : Cause) → may_write cause ≡ true → LeavesAny m made.ready.prepared.journal mid d1 (λ bodies. RecordsOrAll bodies (prepared_bodies made.ready.prepared))
      → LeavesCommand m sources hooks request ids d0 d1 i0 i1 p0 p1 cause
  after_write cause may leaves = inr (with.0, with.1, leaves_written m hooks taken ids d0 mid p0 p1 with.2.replica with.2.opened d1 made.ready with.2.decided cause may with.2.leaves leaves)

  unwritten : (cause : Cause) → d1 ≡ mid → LeavesCommand m sources hooks request ids d0 d1 i0 i1 p0 p1 cause
  unwritten cause same = inl (subst (LeavesRecords m d0) (sym same) with.2.leaves)

  ready_leaves : (e : CarryError) → EndsReady m folders tracks made mid d1 f0 f1 j0 j1 (Some e) → LeavesCommand m sources hooks request ids d0 d1 i0 i1 p0 p1 (carry_cause e)
  ready_leaves carry.Track r = after_write causes.TrackFault refl r.leaves.disk
  ready_leaves carry.Disk r = after_write causes.DiskFault refl r.leaves.disk
  ready_leaves (carry.TooLong bytes) r = unwritten (causes.RecordTooLong bytes) r.ends.0.2
  ready_leaves (carry.Open e) r = absurd r.ends
  ready_leaves (carry.Input e) r = absurd r.ends
  ready_leaves (carry.Refused e) r = absurd r.ends
  ready_leaves (carry.Hook e) r = absurd r.ends
  ready_leaves carry.Memory r = absurd r.ends
  ready_leaves (carry.Load e) r = absurd r.ends
  ready_leaves (carry.HoursTooLong bytes) r = absurd r.ends

  pub made_leaves : (result : Result (Vec ℕ) CarryError) → Ends result → LeavesCommand m sources hooks request ids d0 d1 i0 i1 p0 p1 (ended carry_cause result)
  made_leaves (Ok text) ends = after_write causes.Done refl ends.1.leaves.disk
  made_leaves (Err e) (inl u) = unwritten (carry_cause e) u.disk
  made_leaves (Err e) (inr r) = ready_leaves e r

  -- the hours
  pub made_hours : MayStay folders → DiskMayStay tracks → (result : Result (Vec ℕ) CarryError) → Ends result
      → HoursBy m sources hooks folders tracks request ids d0 d1 i0 i1 p0 p1 f0 f1 j0 j1 (ended carry_cause result) (end_of (ended carry_cause result))
  made_hours folder_stays disk_stays (Ok text) ends = (with.0, with.1, hours_done m hooks folders tracks taken ids d0 mid d1 p0 p1 f0 f1 j0 j1 made with.2 ends.1)
  made_hours folder_stays disk_stays (Err e) ends =
      subst (HoursBy m sources hooks folders tracks request ids d0 d1 i0 i1 p0 p1 f0 f1 j0 j1 (carry_cause e)) (sym (carry_fails e))
      (hours_failed m hooks folders tracks taken ids d0 mid d1 p0 p1 f0 f1 j0 j1 made with.2 folder_stays disk_stays e ends)

  -- when folder or journal failed, and whose record is too long
  abbrev Because : Cause → Type 0
  Because cause = HoursBecause m sources hooks folders tracks request ids d0 d1 i0 i1 p0 p1 f0 f1 j0 j1 cause

  load_because : (e : LoadError) → LoadRefused folders tracks f0 f1 j0 j1 e → (LoadSparesDisk e → HoursStay folders tracks f0 f1 j0 j1) → LeavesAlike folders tracks f0 f1 j0 j1 → d1 ≡ mid → Because (load_cause e)
  load_because load.Folder r stays alike same = (with.0, with.1, inl (record { stays = inr (stays tt); any_moment = alike }, made_held same))
  load_because (load.Journal journal.Disk) r stays alike same = (with.0, with.1, inl (record { stays = inl r.0; any_moment = alike }, made_held same))
  load_because (load.Journal journal.Memory) r stays alike same = tt
  load_because (load.Journal (journal.Damaged offset)) r stays alike same = tt
  load_because (load.Journal (journal.TooLong bytes)) r stays alike same = absurd r.1
  load_because (load.Journal journal.Closed) r stays alike same = absurd r.1
  load_because (load.BadLine file line) r stays alike same = tt
  load_because load.Memory r stays alike same = tt

  unready_because : (before : Option Before) → IsBefore taken (held_state with.2.replica) before → (e : CarryError)
      → HoursRefused folders tracks f0 f1 j0 j1 made.at.seconds before (prepared_state made.ready.prepared).tasks e → LeavesLoaded folders tracks f0 f1 j0 j1 → d1 ≡ mid → Because (carry_cause e)
  unready_because None is e r loaded same = absurd r
  unready_because (Some b) is (carry.Load e) r loaded same = load_because e r.0 r.1 (loaded_alike folders tracks f0 f1 j0 j1 loaded) same
  unready_because (Some b) is (carry.HoursTooLong bytes) r loaded same =
      let old : State = held_state with.2.replica in
      let new : State = prepared_state made.ready.prepared in
      let at : made.at.seconds ≡ taken.at.seconds = ap (λ (t : Moment). t.seconds) with.2.at in
      inr (
        with.0,
        with.1,
        record {
          held_back = record {
            state = old;
            answers = with.2.decided.answers;
            answered = with.2.decided.answered;
            carried = record { step = with.2.decided.decided.step; new = new; text = made.ready.text.items };
            is = with.2.decided.decided.is;
            stays = still_open same;
          };
          loads = r.loads;
          above = r.above;
          size = λ held opens rows read.
              r.size held opens rows read old.tasks (subst (λ (t : ℕ). AreDrivers old.tasks t b.drivers) (sym at) is.1)
              ∙ ap (λ (t : ℕ). driven_size held.files old.tasks new.tasks rows t) at;
        },
      )
  unready_because (Some b) is carry.Memory r loaded same = tt
  unready_because (Some b) is (carry.Open e) r loaded same = absurd r
  unready_because (Some b) is (carry.Input e) r loaded same = absurd r
  unready_because (Some b) is (carry.Refused e) r loaded same = absurd r
  unready_because (Some b) is (carry.Hook e) r loaded same = absurd r
  unready_because (Some b) is (carry.TooLong bytes) r loaded same = absurd r
  unready_because (Some b) is carry.Disk r loaded same = absurd r
  unready_because (Some b) is carry.Track r loaded same = absurd r

  fails_later : (middle : F) (track : J) (before : Option Before) (hours : Option PreparedChange) → AreReady folders tracks made.at.seconds before (prepared_state made.ready.prepared) f0 middle j0 track hours
      → HoursEnd folders tracks middle f1 track j1 hours false → CarriedOut m hooks taken ids d0 d1 p0 p1 → FailsLater m hooks folders tracks taken ids d0 d1 p0 p1 f0 f1 j0 j1
  fails_later middle track before None ready ends run = absurd (let e : false ≡ true = ends.0 in cc)
  fails_later middle track None (Some change) ready ends run = absurd ready
  fails_later middle track (Some b) (Some change) ready ends run =
      record { mid = middle; track = track; store = ready.1.store; loads = ready.1.loads; run = run; rose = ends }

  ready_because : (e : CarryError) → EndsReady m folders tracks made mid d1 f0 f1 j0 j1 (Some e) → Because (carry_cause e)
  ready_because carry.Track r = (
    with.0,
    with.1,
    inr (fails_later r.mid r.track made.before r.hours r.ready r.ends.1 (written_run m hooks folders tracks taken ids d0 mid d1 p0 p1 f0 f1 j0 j1 made with.2 r.ends.0).0),
  )
  ready_because carry.Disk r = tt
  ready_because (carry.TooLong bytes) r = inl (inr (with.0, with.1, passes_limit m hooks taken ids d0 mid p0 p1 with.2.replica with.2.opened d1 made.ready with.2.decided bytes r.ends.0))
  ready_because (carry.Open e) r = absurd r.ends
  ready_because (carry.Input e) r = absurd r.ends
  ready_because (carry.Refused e) r = absurd r.ends
  ready_because (carry.Hook e) r = absurd r.ends
  ready_because carry.Memory r = absurd r.ends
  ready_because (carry.Load e) r = absurd r.ends
  ready_because (carry.HoursTooLong bytes) r = absurd r.ends

  pub made_because : (result : Result (Vec ℕ) CarryError) → Ends result → Because (ended carry_cause result)
  made_because (Ok text) ends = tt
  made_because (Err e) (inl u) = unready_because made.before with.2.before e u.refused u.leaves u.disk
  made_because (Err e) (inr r) = ready_because e r

  pub made_spares : (result : Result (Vec ℕ) CarryError) → Ends result → is_driving request ≡ false → AreUnopened folders tracks f0 f1 j0 j1
  made_spares result ends off = spares_hours m hooks folders tracks taken ids d0 mid d1 p0 p1 f0 f1 j0 j1 made with.2 off result ends

-- the same of a command that was not made
module _ {D S P F J : Type 0} (m : DiskModel D) (sources : SourceModel S) (hooks : SpawnerModel P) (folders : FolderModel F) (tracks : DiskModel J) (request : Request) (ids : IdWords) (d0 d1 : D) (i0 i1 : S) (p0 p1 : P)
    (f0 f1 : F) (j0 j1 : J) where
  abbrev Unmade : Cause → Type 0
  Unmade cause = HoursBecause m sources hooks folders tracks request ids d0 d1 i0 i1 p0 p1 f0 f1 j0 j1 cause

  unopened_because : (e : OpenError) → OpeningRefused m d0 d1 e → Unmade (open_cause e)
  unopened_because opening.Disk n = tt
  unopened_because (opening.Damaged offset) n = tt
  unopened_because opening.Memory n = tt
  unopened_because (opening.TooLong bytes) n = inl (inl n)

  untaken_because : (e : InputError) → Unmade (input_cause e)
  untaken_because input.Fault = tt
  untaken_because input.TooLong = tt
  untaken_because input.Memory = tt

  refused_because : (r : Refusal) → Unmade (refusal_cause r)
  refused_because refusal.NoMatch = tt
  refused_because refusal.NothingToUndo = tt
  refused_because (refusal.BadWords word kind) = tt
  refused_because (refusal.IdTaken uuid) = tt
  refused_because (refusal.Cycle uuid) = tt
  refused_because (refusal.BadInput index name) = tt

  hooked_because : (e : HookError) → Unmade (hook_cause e)
  hooked_because (hook.Refused name status) = tt
  hooked_because (hook.Answer name) = tt
  hooked_because hook.Fault = tt
  hooked_because hook.Memory = tt

  pub unmade_because : (e : CarryError) → SparesHours e → NotCarried m sources hooks request ids d0 d1 i0 i1 p0 p1 e → Unmade (carry_cause e)
  unmade_because (carry.Open e) spares n = unopened_because e n.0
  unmade_because (carry.Input e) spares n = untaken_because e
  unmade_because (carry.Refused r) spares n = refused_because r
  unmade_because (carry.Hook e) spares n = hooked_because e
  unmade_because (carry.TooLong bytes) spares n = inl (inr n)
  unmade_because carry.Disk spares n = tt
  unmade_because carry.Memory spares n = tt
  unmade_because (carry.Load e) spares n = absurd spares
  unmade_because (carry.HoursTooLong bytes) spares n = absurd spares
  unmade_because carry.Track spares n = absurd spares
