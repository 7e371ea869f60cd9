-- All that is known of a run, by what it asks for.
use Rattle.std.proofs.Common.{◌≡◌, ◌∙◌, ◌+◌, ◌^◌, ap, inl, inr, refl, sym, subst, List, None, Result, Ok, Err, arith}
use Rattle.tw_world.specs.Disk.{FaultsRise, Rose}
use Rattle.tw_world.specs.declared.ids.IdWords.{IdWords}
use Rattle.tw_world.proofs.Moments.{OnlyNow}
use Rattle.tw_protocol.specs.Chain.{Grows}
use Rattle.tw_sync.proofs.Served.{grows_same}
use Rattle.tw_sync.specs.Replies.Answers.{IsLinkKept}
use Rattle.tw_http.specs.Link.{IsHonest}
use Rattle.tw_words.specs.Lines.{Parts}
use Rattle.tw_settings.specs.Settings.{Pair}
use Rattle.tw_settings.specs.declared.word_error.WordError.TheVariants as wrong
use Rattle.tw_changes.specs.declared.request.Request.{Request}
use Rattle.tw_spawn.specs.Spawner.{SpawnerKept}
use Rattle.tw_cli.specs.Hooks.{HooksKept}
use Rattle.tw_cli.specs.Hours.{HoursCan, DrivesHours}
use Rattle.tw_cli.specs.Input.{IsInputKept}
use Rattle.tw_cli.specs.Run.{Gives, CanEnd, Draws, IsDoneOrWant}
use Rattle.tw_sync.specs.Start.{Start}
use Rattle.tw_sync.specs.Start.Start.{Base}
use Rattle.tw_state.specs.State as states
use Rattle.tw_cli.specs.Syncing.{SyncStart, AsksInVain}
use Rattle.tw_cli.specs.SyncRuns.{SyncEndsRun}
use Rattle.tw_cli.specs.Generating.{GenerateGives}
use Rattle.tw_cli.specs.Crash.{LeavesCommand}
use Rattle.tw_cli.specs.Growth.{GrowsByRecord}
use Rattle.tw_settings.specs.declared.server.ServerSettings.{ServerSettings}
use Rattle.tw_cli.specs.Asked.{IsAsked}
use Rattle.tw_cli.specs.Cause.{line_cause}
use Rattle.tw_cli.specs.Whole.{Models, Outside, went, from_link, FromStart, GivesFrom, EndsWellFrom, LeavesFrom, IsRunFrom, RunGives, EndsWell, RunLeaves, RunDrives, RunDraws, RunSpares, RunKeepsInput, IsRun}
use Rattle.tw_cli.specs.declared.carry.CarryError.TheVariants as carry
use Rattle.tw_replica.specs.declared.error.OpenError.TheVariants as opening
use Rattle.tw_replica.proofs.Replaying.{opens_as_before}
use Rattle.tw_cli.specs.declared.syncing.SyncFailure.TheVariants as failure
use Rattle.tw_cli.specs.declared.asked.Job.{Job}
use Rattle.tw_cli.specs.declared.asked.Job.TheVariants.{Here, Sync, Generate}
use Rattle.tw_cli.specs.declared.asked.LineError.{LineError}
use Rattle.tw_cli.specs.declared.asked.LineError.TheVariants.{Words}
use Rattle.tw_cli.specs.declared.cause.Cause.{Cause}
use Rattle.tw_cli.specs.declared.cause.Cause.TheVariants.{Memory}
use Rattle.tw_cli.proofs.Growth.{nothing_grown}
use Rattle.tw_cli.proofs.LoadedHours.{unopened_kept}
use Rattle.tw_cli.proofs.Openings.{leaves_as_it_was}
use Rattle.tw_cli.proofs.Taking.{input_same}
use Rattle.tw_cli.proofs.Starting.{from_start}

same_error : (found : Result Job LineError) (a b : LineError) → found ≡ Err a → found ≡ Err b → a ≡ b
same_error found a b is also = cc

module _ {D S O L P F J : Type 0} (m : Models D S O L P F J) where
  disk_same : (d : D) → FaultsRise m.disk d d
  disk_same d = record { faults = omega arith; tells = refl }

  link_same : (l : L) → IsLinkKept m.link l l
  link_same l = record { faults = omega arith; tells_list = refl; tells_chain = refl; client = refl; honest = refl }

  spawner_same : (p : P) → SpawnerKept m.spawner p p
  spawner_same p = record { faults = omega arith; tells = refl; names = refl }

  -- what is outside of a run that leaves all but the output as it was
  abbrev still : D → S → (o0 o1 : O) → L → P → F → J → Outside D S O L P F J
  still d i o0 o1 l p f j = went d d i i o0 o1 l l p p f f j j

  -- a sync that asks for nothing
  abbrev unasked : (server : ServerSettings) (d : D) (l : L) → SyncStart m.disk m.link server d l l
  unasked server d l = record { start = Base; begun = l; state = states.start; begins = inl refl; of = λ tells other opens. inl refl; sound = λ tells given. tt }

  -- a sync that asks for nothing does so for a cause
  abbrev WhyUnasked : Result Job LineError → L → Cause → Type 0
  WhyUnasked (Ok (Here request)) l cause = Unit {0}
  WhyUnasked (Ok (Sync server)) l cause = AsksInVain l l cause
  WhyUnasked (Ok (Generate line settings)) l cause = Unit {0}
  WhyUnasked (Err error) l cause = Unit {0}

  -- it starts at once
  at_once : (asked : Result Job LineError) (d : D) (l : L) (cause : Cause) (P : Start → L → Type 0) → WhyUnasked asked l cause → P Base l → FromStart m.disk m.link asked d l l cause P
  at_once (Ok (Here request)) d l cause P why p = p
  at_once (Ok (Sync server)) d l cause P why p = (unasked server d l, p, λ tells state opens fresh. inr why)
  at_once (Ok (Generate line settings)) d l cause P why p = p
  at_once (Err error) d l cause P why p = p

  unchanged_is_run : (asked : Result Job LineError) (ids : IdWords) (d : D) (i : S) (o0 o1 : O) (l : L) (p : P) (f : F) (j : J) (cause : Cause) → GivesFrom m Base asked ids (still d i o0 o1 l p f j) cause → EndsWellFrom m Base asked ids (still d i o0 o1 l p f j) cause
      → LeavesFrom m Base asked ids (still d i o0 o1 l p f j) cause → GrowsByRecord m.disk d d → RunDraws m.disk m.source asked d i i ids ids cause → RunDrives m asked ids (still d i o0 o1 l p f j) cause → RunSpares asked (still d i o0 o1 l p f j) → RunKeepsInput m.source asked i i → WhyUnasked asked l cause → IsRun m asked ids ids (still d i o0 o1 l p f j) cause
  unchanged_is_run asked ids d i o0 o1 l p f j cause gives complete leaves grown draws hours spares input_kept why = record {
    run = at_once asked d l cause (λ start begun. IsRunFrom m start asked ids (from_link (still d i o0 o1 l p f j) begun) cause) why
        (record { gives = gives; complete = complete; any_moment = leaves; grows = λ honest. grows_same (m.link.chain l); link_kept = link_same l });
    growth = grown;
    grows = λ honest. grows_same (m.link.chain l);
    ids = draws;
    hours = hours;
    spares = spares;
    spawner_kept = spawner_same p;
    input_kept = input_kept;
    kept = disk_same d;
    link_kept = link_same l;
  }

  -- the hours are as they were
  hours_same : OnlyNow m.track → (request : Request) (ids : IdWords) (d : D) (i : S) (p : P) (f : F) (j : J) → DrivesHours m.disk m.source m.spawner m.folder m.track request ids d d i i p p f f j j Memory
  hours_same track_now request ids d i p f j = record {
    gives = unopened_kept m.folder m.track f f j j (refl, refl);
    because = tt;
    spares = λ off. (refl, refl);
    any_moment = inl (refl, refl);
    growth = nothing_grown m.track track_now j (2 ^ 30 + 29);
    folder = record { faults = omega arith; tells = refl };
    track = record { faults = omega arith; tells = refl };
  }

  -- memory runs out before anything is asked for
  pub want_is_run : OnlyNow m.disk → OnlyNow m.track → (asked : Result Job LineError) (ids : IdWords) (d : D) (i : S) (o : O) (l : L) (p : P) (f : F) (j : J) → IsRun m asked ids ids (still d i o o l p f j) Memory
  want_is_run only_now track_now (Ok (Here request)) ids d i o l p f j =
      unchanged_is_run (Ok (Here request)) ids d i o o l p f j Memory ((carry.Open opening.Memory, refl, ((λ tells. opens_as_before (m.disk.seen d) (m.disk.seen d) (inl refl)), refl, refl), refl), refl) (λ can well. inr refl)
      (inl (leaves_as_it_was m.disk only_now d)) (nothing_grown m.disk only_now d (2 ^ 31 + 24)) (inr (refl, inr (inl refl))) (hours_same track_now request ids d i p f j) ((λ none. refl), λ off. (refl, refl)) (input_same m.source request.command i) tt
  want_is_run only_now track_now (Ok (Sync server)) ids d i o l p f j =
      unchanged_is_run (Ok (Sync server)) ids d i o o l p f j Memory (failure.Open opening.Memory, refl, ((λ tells. opens_as_before (m.disk.seen d) (m.disk.seen d) (inl refl)), refl), refl) (λ can well. inl (inr refl))
      (λ tells. record { next = None; made = λ state opens. tt; end = λ honest state opens. tt; leaves = leaves_as_it_was m.disk only_now d }) (nothing_grown m.disk only_now d (2 ^ 31 + 24)) refl (refl, refl) (refl, refl, refl) refl (inr (inr refl))
  want_is_run only_now track_now (Ok (Generate line settings)) ids d i o l p f j = unchanged_is_run (Ok (Generate line settings)) ids d i o o l p f j Memory ((refl, refl), refl, refl, refl) (λ well. inr refl) (leaves_as_it_was m.disk only_now d) (nothing_grown m.disk only_now d (2 ^ 31 + 24)) refl (refl, refl) (refl, refl, refl) refl tt
  want_is_run only_now track_now (Err error) ids d i o l p f j = unchanged_is_run (Err error) ids d i o o l p f j Memory (inr refl, refl, refl, refl, refl) tt (leaves_as_it_was m.disk only_now d) (nothing_grown m.disk only_now d (2 ^ 31 + 24)) refl (refl, refl) (refl, refl, refl) refl tt

  -- nothing is done
  pub error_is_run : OnlyNow m.disk → OnlyNow m.track → (asked : Result Job LineError) (error : LineError) (ids : IdWords) (d : D) (i : S) (o : O) (l : L) (p : P) (f : F) (j : J) (cause : Cause) → cause ≡ line_cause error → IsAsked asked (Err error)
      → IsRun m asked ids ids (still d i o o l p f j) cause
  error_is_run only_now track_now asked error ids d i o l p f j cause is (inl refused) = subst (λ (a : Result Job LineError). IsRun m a ids ids (still d i o o l p f j) cause) refused
      (unchanged_is_run (Err error) ids d i o o l p f j cause (inl is, refl, refl, refl, refl) tt (leaves_as_it_was m.disk only_now d) (nothing_grown m.disk only_now d (2 ^ 31 + 24)) refl (refl, refl) (refl, refl, refl) refl tt)
  error_is_run only_now track_now asked error ids d i o l p f j cause is (inr want) =
      let same : error ≡ Words wrong.Memory = same_error (Err error) error (Words wrong.Memory) refl want in
      subst (IsRun m asked ids ids (still d i o o l p f j)) (sym (is ∙ ap line_cause same)) (want_is_run only_now track_now asked ids d i o l p f j)

  -- a command is asked for
  pub command_is_run : (asked : Result Job LineError) (request : Request) (old new : IdWords) (d0 d1 : D) (i0 i1 : S) (o0 o1 : O) (l : L) (p0 p1 : P) (f0 f1 : F) (j0 j1 : J) (cause : Cause) → asked ≡ Ok (Here request)
      → Gives m.disk m.source m.spawner request old d0 d1 i0 i1 p0 p1 m.sink o0 o1 cause
      → ((can : CanEnd m.disk m.source m.spawner request old d0 d1 i0 i1 p0 p1 m.sink o0 o1) → HoursCan m.folder m.track can.can f0 f1 j0 j1 → IsDoneOrWant cause) → LeavesCommand m.disk m.source m.spawner request old d0 d1 i0 i1 p0 p1 cause
      → GrowsByRecord m.disk d0 d1
      → DrivesHours m.disk m.source m.spawner m.folder m.track request old d0 d1 i0 i1 p0 p1 f0 f1 j0 j1 cause
      → Draws m.disk m.source request d0 i0 i1 old new cause → FaultsRise m.disk d0 d1 → IsInputKept m.source request.command i0 i1 → HooksKept m.spawner request p0 p1
      → IsRun m asked old new (went d0 d1 i0 i1 o0 o1 l l p0 p1 f0 f1 j0 j1) cause
  command_is_run asked request old new d0 d1 i0 i1 o0 o1 l p0 p1 f0 f1 j0 j1 cause here gives complete leaves grown hours draws kept input_kept hooks_kept = subst (λ (a : Result Job LineError). IsRun m a old new (went d0 d1 i0 i1 o0 o1 l l p0 p1 f0 f1 j0 j1) cause) (sym here) (record {
    run = record { gives = (gives, refl); complete = complete; any_moment = leaves; grows = λ honest. grows_same (m.link.chain l); link_kept = link_same l };
    growth = grown;
    grows = λ honest. grows_same (m.link.chain l);
    ids = draws;
    hours = hours;
    spares = (hooks_kept.untouched, hours.spares);
    spawner_kept = hooks_kept.kept;
    input_kept = input_kept;
    kept = kept;
    link_kept = link_same l;
  })

  -- a sync is asked for
  pub sync_is_run : (asked : Result Job LineError) (server : ServerSettings) (ids : IdWords) (d0 d1 : D) (i : S) (o0 o1 : O) (l0 l1 : L) (p : P) (f : F) (j : J) (cause : Cause) → asked ≡ Ok (Sync server)
      → SyncEndsRun m.disk m.sink m.link server d0 d1 o0 o1 l0 l1 cause → GrowsByRecord m.disk d0 d1 → (IsHonest m.link l0 server.client → Grows (m.link.chain l0) (m.link.chain l1)) → FaultsRise m.disk d0 d1 → IsLinkKept m.link l0 l1
      → IsRun m asked ids ids (went d0 d1 i i o0 o1 l0 l1 p p f f j j) cause
  sync_is_run asked server ids d0 d1 i o0 o1 l0 l1 p f j cause there run grown grows kept link_kept = subst (λ (a : Result Job LineError). IsRun m a ids ids (went d0 d1 i i o0 o1 l0 l1 p p f f j j) cause) (sym there) (record {
    run = (run.0, record { gives = run.1.gives; complete = run.1.complete; any_moment = run.1.any_moment; grows = run.1.grows; link_kept = run.1.link_kept }, run.2);
    growth = grown;
    grows = grows;
    ids = refl;
    hours = (refl, refl);
    spares = (refl, refl, refl);
    spawner_kept = spawner_same p;
    input_kept = refl;
    kept = kept;
    link_kept = link_kept;
  })

  -- a large world is asked for
  pub generate_is_run : OnlyNow m.disk → (asked : Result Job LineError) (line : Parts) (settings : List Pair) (ids : IdWords) (d : D) (i : S) (o0 o1 : O) (l : L) (p : P) (f : F) (j : J) (cause : Cause) → asked ≡ Ok (Generate line settings)
      → GenerateGives m.sink line settings o0 o1 cause → ((Rose (m.sink.faults o0) (m.sink.faults o1) → ⊥) → IsDoneOrWant cause)
      → IsRun m asked ids ids (still d i o0 o1 l p f j) cause
  generate_is_run only_now asked line settings ids d i o0 o1 l p f j cause there gives complete = subst (λ (a : Result Job LineError). IsRun m a ids ids (still d i o0 o1 l p f j) cause) (sym there)
      (unchanged_is_run (Ok (Generate line settings)) ids d i o0 o1 l p f j cause (gives, refl, refl, refl) complete (leaves_as_it_was m.disk only_now d) (nothing_grown m.disk only_now d (2 ^ 31 + 24)) refl (refl, refl) (refl, refl, refl) refl tt)

-- ---- what is known of a run from its start, as clauses

module _ {D S O L P F J : Type 0} (m : Models D S O L P F J) (w : Outside D S O L P F J) (asked : Result Job LineError) (old new : IdWords) (cause : Cause) (run : IsRun m asked old new w cause) where
  abbrev Known : Start → L → Type 0
  Known start begun = IsRunFrom m start asked old (from_link w begun) cause

  pub run_gives : RunGives m asked old w cause
  run_gives = from_start m.disk m.link w.d0 w.l0 w.l1 cause asked Known (λ start begun. GivesFrom m start asked old (from_link w begun) cause) (λ start begun known. known.gives) run.run

  pub run_complete : EndsWell m asked old w cause
  run_complete = from_start m.disk m.link w.d0 w.l0 w.l1 cause asked Known (λ start begun. EndsWellFrom m start asked old (from_link w begun) cause) (λ start begun known. known.complete) run.run

  pub run_leaves : RunLeaves m asked old w cause
  run_leaves = from_start m.disk m.link w.d0 w.l0 w.l1 cause asked Known (λ start begun. LeavesFrom m start asked old (from_link w begun) cause) (λ start begun known. known.any_moment) run.run
