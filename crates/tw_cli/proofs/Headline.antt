-- What a run keeps.
use Rattle.std.proofs.Common.{◌≡◌, ◌∙◌, inl, inr, sym, refl, subst, true, List, ℕ, [], ◌∷◌, ◌++◌, Option, Some, None, Result, Ok, Err}
use Rattle.std.proofs.lemmas.Bool.{true≢false}
use Rattle.tw_world.specs.Disk.{DiskModel, Tells, IsStable}
use Rattle.tw_world.proofs.Moments.{CountsNow, weaker}
use Rattle.tw_world.specs.declared.ids.IdWords.{IdWords}
use Rattle.tw_model.specs.Ops.{TaskValue}
use Rattle.tw_journal.specs.declared.error.AppendError.TheVariants as journal
use Rattle.tw_http.specs.Link.{IsChainOf}
use Rattle.tw_state.specs.State.{State, undone}
use Rattle.tw_replica.specs.Replica.{OpensTo}
use Rattle.tw_replica.specs.Opening.{opened_bodies}
use Rattle.tw_replica.specs.Prepared.{step_bodies}
use Rattle.tw_replica.specs.declared.error.OpenError.TheVariants as opening
use Rattle.tw_sync.proofs.Folds.{pending_acts_on_the_fold, agreeing_replicas_are_equal}
use Rattle.tw_sync.specs.declared.report.SyncReport.{SyncReport}
use Rattle.tw_sync.specs.declared.error.SyncError.{SyncError}
use Rattle.tw_sync.specs.declared.error.SyncError.TheVariants as syncs
use Rattle.tw_settings.specs.declared.server.ServerSettings.{ServerSettings}
use Rattle.tw_terms.specs.declared.bad_word.BadWord.{BadWord}
use Rattle.tw_words.specs.Readings.{first_bad}
use Rattle.tw_words.specs.declared.command.Command.{Command}
use Rattle.tw_words.specs.declared.command.Command.TheVariants as command
use Rattle.tw_commands.specs.Request.{scene_in}
use Rattle.tw_commands.specs.Commands.{plan_by, unless_bad, undoing}
use Rattle.tw_commands.specs.Asks.{answered_with}
use Rattle.tw_commands.specs.Carried.{Carried, carried_by, carried_out}
use Rattle.tw_commands.proofs.Applied.{by_plan}
use Rattle.tw_commands.proofs.EqualExports.{exports_are_equal}
use Rattle.tw_changes.specs.declared.request.Request.{Request}
use Rattle.tw_ending.specs.Ending.{End}
use Rattle.tw_ending.specs.Ending.End.{Well, Output, Failed}
use Rattle.tw_cli.specs.Cause.{end_of, may_write, failure_cause}
use Rattle.tw_cli.specs.Input.{with_input}
use Rattle.tw_cli.specs.Opening.{HasMore}
use Rattle.tw_cli.specs.Run.{CarriedOut, GivesBy}
use Rattle.tw_cli.specs.Syncing.{SyncStart, Synced, WasStopped, NotSynced, SyncGivesBy}
use Rattle.tw_cli.specs.Agreement.{OpensAgreeing}
use Rattle.tw_cli.specs.Whole.{Models, Outside, IsHonestFor, IsRun, RunGives}
use Rattle.tw_cli.proofs.Runs.{run_gives}
use Rattle.tw_cli.specs.Headline.{OpensFollowing, Survives, WasCarriedOut, IsOf, TakesBack, OutcomeSurvives, StopSurvives, ExportPrints, Headline, MachinesExportAlike}
use Rattle.tw_cli.specs.declared.asked.Job.{Job}
use Rattle.tw_cli.specs.declared.asked.Job.TheVariants.{Here, Sync, Generate}
use Rattle.tw_cli.specs.declared.asked.LineError.{LineError}
use Rattle.tw_cli.specs.declared.syncing.SyncFailure.{SyncFailure}
use Rattle.tw_cli.specs.declared.syncing.SyncFailure.TheVariants as failure
use Rattle.tw_cli.specs.declared.cause.Cause.{Cause}
use Rattle.tw_cli.specs.declared.cause.Cause.TheVariants.{Done, DiskFault}
use Rattle.tw_cli.proofs.Agreeing.{agreement_stays}
use Rattle.tw_cli.proofs.Staying.{state_stays}

-- ---- an undo

planned_undo : (request : Request) (old : State) (answers : List TaskValue) (c : Carried) → carried_by request old (answered_with answers old.tasks (Ok undoing)) ≡ Ok c → undone old ≡ Some c.new
planned_undo request old [] c e = by_plan request old undoing c e
planned_undo request old (answer ∷ answers) c e = by_plan request old undoing c e

named_undo : (request : Request) (old : State) (answers : List TaskValue) (c : Carried) (bad : Option BadWord) → carried_by request old (answered_with answers old.tasks (unless_bad bad (Ok undoing))) ≡ Ok c → undone old ≡ Some c.new
named_undo request old answers c None e = planned_undo request old answers c e
named_undo request old [] c (Some bad) e = absurd cc
named_undo request old (answer ∷ answers) c (Some bad) e = absurd cc

undo_is : (request : Request) (ids : IdWords) (answers : List TaskValue) (old : State) (c : Carried) → request.command ≡ command.Undo → carried_out request ids answers old ≡ Ok c → undone old ≡ Some c.new
undo_is request ids answers old c is e =
    let bad : Option BadWord = first_bad (scene_in request old) request.line in
    named_undo request old answers c bad
    (subst (λ (of : Command). carried_by request old (answered_with answers old.tasks (unless_bad bad (plan_by of request ids old))) ≡ Ok c) is e)

-- ---- what was carried out survives

module _ {D : Type 0} (m : DiskModel D) (d0 d1 : D) where
  opened_before : (more : List (List ℕ)) (old new : State) → HasMore (m.seen d0) (m.seen d1) more old new → OpensTo (m.seen d0) old
  opened_before more old new h = record { bodies = h.bodies; records = h.had; stands = h.stood }

  opens_after : (more : List (List ℕ)) (old new : State) → HasMore (m.seen d0) (m.seen d1) more old new → OpensTo (m.seen d1) new
  opens_after more old new h = record { bodies = opened_bodies (m.seen d0) old h.bodies ++ more; records = h.has; stands = h.stands }

  settled_survives : (new : State) → IsStable m d1 → OpensTo (m.seen d1) new → Survives m d1 new
  settled_survives new settled there = λ file left. subst (λ f. OpensTo f new) (sym (settled file left)) there

module _ {D S O L P F J : Type 0} (m : Models D S O L P F J) (ids : IdWords) (w : Outside D S O L P F J) (tells : Tells m.disk w.d0) where
  carried_survives : (request : Request) (run : CarriedOut m.disk m.spawner request ids w.d0 w.d1 w.p0 w.p1) → Survives m.disk w.d1 run.carried.new
  carried_survives request run =
      let has = run.disk tells in
      settled_survives m.disk w.d0 w.d1 run.carried.new has.1 (opens_after m.disk w.d0 w.d1 (step_bodies run.carried.step) run.old run.carried.new has.0)

  synced_survives : (server : ServerSettings) (s : SyncStart m.disk m.link server w.d0 w.l0 w.l1) (report : SyncReport) (run : Synced m.disk m.link server s.start w.d0 w.d1 s.begun w.l1 report) → Survives m.disk w.d1 run.new
  synced_survives server s report run =
      let has = run.disk tells in
      settled_survives m.disk w.d0 w.d1 run.new has.settled (opens_after m.disk w.d0 w.d1 has.bodies run.old run.new has.more)

  -- where a sync was stopped survives
  kept_survives : (server : ServerSettings) (s : SyncStart m.disk m.link server w.d0 w.l0 w.l1) (e : SyncError) → WasStopped m.disk m.link server s.start w.d0 w.d1 s.begun w.l1 e → StopSurvives m ids w (Ok (Sync server))
  kept_survives server s e stop =
      let has = stop.disk tells in
      (s, e, stop, settled_survives m.disk w.d0 w.d1 stop.new has.settled (opens_after m.disk w.d0 w.d1 has.bodies stop.old stop.new has.more))

  stop_survives : (server : ServerSettings) (s : SyncStart m.disk m.link server w.d0 w.l0 w.l1) (failed : SyncFailure) → may_write (failure_cause failed) ≡ true → (failure_cause failed ≡ DiskFault → ⊥)
      → NotSynced m.disk m.link server s.start w.d0 w.d1 s.begun w.l1 failed → StopSurvives m ids w (Ok (Sync server))
  stop_survives server s (failure.Open opening.Disk) may spared why = absurd (spared refl)
  stop_survives server s (failure.Open (opening.Damaged offset)) may spared why = absurd (true≢false (sym may))
  stop_survives server s (failure.Open opening.Memory) may spared why = absurd (true≢false (sym may))
  stop_survives server s (failure.Open (opening.TooLong bytes)) may spared why = absurd (true≢false (sym may))
  stop_survives server s (failure.Sync (syncs.Journal journal.Disk)) may spared why = absurd (spared refl)
  stop_survives server s (failure.Sync (syncs.Journal journal.Closed)) may spared why = absurd (spared refl)
  stop_survives server s (failure.Sync (syncs.Journal (journal.TooLong bytes))) may spared why = absurd (true≢false (sym may))
  stop_survives server s (failure.Sync syncs.Memory) may spared why = absurd (true≢false (sym may))
  stop_survives server s (failure.Sync syncs.Link) may spared why = kept_survives server s syncs.Link why.1
  stop_survives server s (failure.Sync (syncs.Reply kind)) may spared why = kept_survives server s (syncs.Reply kind) why.1
  stop_survives server s (failure.Sync (syncs.Gone base)) may spared why = kept_survives server s (syncs.Gone base) why.1
  stop_survives server s (failure.Sync (syncs.Busy parent)) may spared why = kept_survives server s (syncs.Busy parent) why.1
  stop_survives server s (failure.Sync (syncs.OutOfSync base parent)) may spared why = kept_survives server s (syncs.OutOfSync base parent) why.1
  stop_survives server s (failure.Sync (syncs.Segment version)) may spared why = kept_survives server s (syncs.Segment version) why.1
  stop_survives server s (failure.Sync (syncs.SegmentTooLong bytes)) may spared why = kept_survives server s (syncs.SegmentTooLong bytes) why.1
  stop_survives server s (failure.Sync (syncs.PullTooLong bytes)) may spared why = kept_survives server s (syncs.PullTooLong bytes) why.1

  run_stopped : (asked : Result Job LineError) (cause : Cause) → RunGives m asked ids w cause → end_of cause ≡ Failed → may_write cause ≡ true
      → (cause ≡ DiskFault → ⊥) → StopSurvives m ids w asked
  run_stopped (Ok (Here request)) cause gives failed may spared = tt
  run_stopped (Ok (Sync server)) cause gives failed may spared =
      let why : SyncGivesBy m.disk m.sink m.link server gives.0.start w.d0 w.d1 w.o0 w.o1 gives.0.begun w.l1 cause Failed = subst (SyncGivesBy m.disk m.sink m.link server gives.0.start w.d0 w.d1 w.o0 w.o1 gives.0.begun w.l1 cause) failed gives.1 in
      stop_survives server gives.0 why.0 (subst (λ of. may_write of ≡ true) why.1 may) (λ is. spared (why.1 ∙ is)) why.2
  run_stopped (Ok (Generate line settings)) cause gives failed may spared = tt
  run_stopped (Err error) cause gives failed may spared = tt

  -- at an end
  abbrev pub SurvivesAt : Result Job LineError → End → Type 0
  SurvivesAt asked Well = OutcomeSurvives m ids w asked
  SurvivesAt asked Output = OutcomeSurvives m ids w asked
  SurvivesAt asked Failed = Unit {0}

  command_survives : (request : Request) (cause : Cause) (end : End) → GivesBy m.disk m.source m.spawner request ids w.d0 w.d1 w.i0 w.i1 w.p0 w.p1 m.sink w.o0 w.o1 cause end → SurvivesAt (Ok (Here request)) end
  command_survives request cause Well g = (g.0, g.1, (g.2.0, carried_survives (with_input request g.0) g.2.0))
  command_survives request cause Output g = (g.0.0, g.0.1, (g.0.2.0, carried_survives (with_input request g.0.0) g.0.2.0))
  command_survives request cause Failed g = tt

  sync_survives : (server : ServerSettings) (s : SyncStart m.disk m.link server w.d0 w.l0 w.l1) (cause : Cause) (end : End) → SyncGivesBy m.disk m.sink m.link server s.start w.d0 w.d1 w.o0 w.o1 s.begun w.l1 cause end → SurvivesAt (Ok (Sync server)) end
  sync_survives server s cause Well g = (s, g.0, g.1, synced_survives server s g.0 g.1)
  sync_survives server s cause Output g = (s, g.0.0, g.0.1, synced_survives server s g.0.0 g.0.1)
  sync_survives server s cause Failed g = tt

  nothing_survives : (asked : Result Job LineError) (end : End) → OutcomeSurvives m ids w asked → SurvivesAt asked end
  nothing_survives asked Well none = none
  nothing_survives asked Output none = none
  nothing_survives asked Failed none = tt

  run_survives : (asked : Result Job LineError) (cause : Cause) → RunGives m asked ids w cause → SurvivesAt asked (end_of cause)
  run_survives (Ok (Here request)) cause gives = command_survives request cause (end_of cause) gives.0
  run_survives (Ok (Sync server)) cause gives = sync_survives server gives.0 cause (end_of cause) gives.1
  run_survives (Ok (Generate line settings)) cause gives = nothing_survives (Ok (Generate line settings)) (end_of cause) tt
  run_survives (Err error) cause gives = nothing_survives (Err error) (end_of cause) tt

  survives_where : (asked : Result Job LineError) (cause : Cause) → RunGives m asked ids w cause → WasCarriedOut cause → OutcomeSurvives m ids w asked
  survives_where asked cause gives (inl done) = subst (λ of. SurvivesAt asked (end_of of)) done (run_survives asked cause gives)
  survives_where asked cause gives (inr fault) = subst (λ of. SurvivesAt asked (end_of of)) fault (run_survives asked cause gives)

  -- ---- an undo, an export

  taken_back : (asked : Result Job LineError) → IsOf command.Undo asked → OutcomeSurvives m ids w asked → TakesBack m.disk w.d0 w.d1
  taken_back (Ok (Here request)) is outcome =
      let run = outcome.2.0 in
      record {
        old = run.old;
        opened = opened_before m.disk w.d0 w.d1 (step_bodies run.carried.step) run.old run.carried.new (run.disk tells).0;
        new = run.carried.new;
        back = undo_is (with_input request outcome.0) ids run.answers run.old run.carried is run.is;
        survives = outcome.2.1;
      }
  taken_back (Ok (Sync server)) is outcome = absurd is
  taken_back (Ok (Generate line settings)) is outcome = absurd is
  taken_back (Err error) is outcome = absurd is

  export_prints : (asked : Result Job LineError) → RunGives m asked ids w Done → ExportPrints m ids w asked
  export_prints (Ok (Here request)) gives = λ is.
      let run = gives.0.2.0 in (
        gives.0.0,
        gives.0.1,
        record {
          state = run.old;
          opened = opened_before m.disk w.d0 w.d1 (step_bodies run.carried.step) run.old run.carried.new (run.disk tells).0;
          text = run.carried.text;
          prints = (ids, run.answers, run.carried, run.is, refl);
          got = gives.0.2.1;
        },
      )
  export_prints (Ok (Sync server)) gives = tt
  export_prints (Ok (Generate line settings)) gives = tt
  export_prints (Err error) gives = tt

module _ {D S O L P F J : Type 0} (m : Models D S O L P F J) (w : Outside D S O L P F J) (tells_chain : (link : L) → IsChainOf m.link link) where
  pub headline : ((disk : D) → Tells m.disk disk → m.disk.leaves disk (m.disk.seen disk)) → CountsNow m.disk → (asked : Result Job LineError) (old new : IdWords) (cause : Cause)
      → IsRun m asked old new w cause → Tells m.disk w.d0 → IsHonestFor m.link asked w.l0 → Headline m old w asked cause
  headline seen_may_stay counts_now asked old new cause run tells honest = record {
    follows = λ sound chain now is all. weaker m.disk w.d0 w.d1 (OpensAgreeing now) (OpensFollowing now)
        ((agreement_stays m w tells_chain seen_may_stay counts_now asked old new cause run tells honest sound chain now is).any_moment all)
        (λ file opens. (opens.0, opens.1, λ whole there fold. pending_acts_on_the_fold opens.0 now there whole opens.2 fold));
    survives = λ which. survives_where m old w tells asked cause (run_gives m w asked old new cause run) which;
    undo = λ is which. taken_back m old w tells asked is (survives_where m old w tells asked cause (run_gives m w asked old new cause run) which);
    exports = λ done. export_prints m old w tells asked (subst (RunGives m asked old w) done (run_gives m w asked old new cause run));
    refused = state_stays m w asked old cause (run_gives m w asked old new cause run);
    stopped = λ failed may spared. run_stopped m old w tells asked cause (run_gives m w asked old new cause run) failed may spared;
  }

-- ---- two machines

pub machines_export_alike : MachinesExportAlike
machines_export_alike chain here there one other text copy whole agrees too base none nothing alike numbers prints copies =
    exports_are_equal one other here there text copy alike numbers (agreeing_replicas_are_equal here there chain whole agrees too base none nothing) prints copies
