-- A run is an event of a world.
use Rattle.std.proofs.Common.{◌≡◌, ◌⊎◌, inl, inr, ⊎_elim, ◌∙◌, refl, sym, ap, subst, ℕ, List, [], ◌∷◌, ◌++◌, IsTrue, Option, Some, None, Result, Ok, Err}
use Rattle.std.proofs.lemmas.List.{append-nil}
use Rattle.tw_world.specs.Disk.{DiskModel, Tells, IsStable, LeavesOnly}
use Rattle.tw_world.specs.Sink.{SinkModel}
use Rattle.tw_world.specs.Source.{SourceModel}
use Rattle.tw_spawn.specs.Spawner.{SpawnerModel}
use Rattle.tw_model.specs.Ops.{TaskValue}
use Rattle.tw_world.specs.declared.ids.IdWords.{IdWords}
use Rattle.tw_world.proofs.Moments.{CountsNow, OnlyNow, started, weaker}
use Rattle.tw_journal.specs.Open.{Records, IsImageThen}
use Rattle.tw_journal.proofs.Unique.{one_records}
use Rattle.tw_model.specs.declared.changes.Change.{Change}
use Rattle.tw_model.specs.Changes.{changed_all, ops_of_all, group_of}
use Rattle.tw_protocol.specs.Chain.{Version, Grows}
use Rattle.tw_http.specs.Link.{LinkModel, IsHonest, IsChainOf, IsServedChain}
use Rattle.tw_state.specs.State.{State, applied, undone}
use Rattle.tw_replica.specs.Prepared.{step_bodies}
use Rattle.tw_replica.specs.Replica.{magic, OpensTo, OpensToEither}
use Rattle.tw_replica.specs.Opening.{IsOpening, opened_bodies}
use Rattle.tw_state.proofs.CommittedChanges.{changes_are_group}
use Rattle.tw_outcome.specs.End.{Answer}
use Rattle.tw_outcome.specs.End.Answer.{Done as DoneSync}
use Rattle.tw_sync.specs.Ends.End.{EndFrom, counts_of}
use Rattle.tw_outcome.specs.Start.{starts_at}
use Rattle.tw_sync.specs.Start.{Start, from_state, MayStart, IsSoundStart}
use Rattle.tw_sync.proofs.ReplicaMoved.{starts_soundly}
use Rattle.tw_sync.proofs.EndsSeen.{ends_before}
use Rattle.tw_sync.proofs.Served.{grows_on}
use Rattle.tw_cli.proofs.Starting.{if_sound}
use Rattle.tw_sync.specs.Sync.{server_chain, IsEndIn, IsSyncOf}
use Rattle.tw_sync.specs.Theorem.{IsAmong, IsCommit, Makes, with_next, Runs}
use Rattle.tw_sync.specs.declared.report.SyncReport.{SyncReport}
use Rattle.tw_settings.specs.declared.server.ServerSettings.{ServerSettings}
use Rattle.tw_changes.specs.Marks.{mask_changes}
use Rattle.tw_commands.specs.Plan.{Plan, Work, step_in}
use Rattle.tw_commands.specs.Plan.Work.{Changes, TakeBack}
use Rattle.tw_commands.specs.Commands.{plan_of}
use Rattle.tw_commands.specs.Asks.{answered_with}
use Rattle.tw_commands.specs.Carried.{Carried, carried_by, carried_out}
use Rattle.tw_changes.specs.declared.request.Request.{Request}
use Rattle.tw_changes.specs.declared.refusal.Refusal.{Refusal}
use Rattle.tw_commands.proofs.Applied.{by_plan}
use Rattle.tw_cli.specs.Opening.{HasMore}
use Rattle.tw_cli.specs.Input.{with_input}
use Rattle.tw_cli.specs.Run.{CarriedOut, GivesBy}
use Rattle.tw_ending.specs.Ending.{End}
use Rattle.tw_ending.specs.Ending.End.{Well, Output, Failed}
use Rattle.tw_cli.specs.Cause.{end_of}
use Rattle.tw_cli.specs.Crash.{LeavesRecords, IsStepOf, LeavesEither, LeavesCommand, LeavesOneEnd, LeavesSync, new_of, next_of}
use Rattle.tw_cli.specs.Syncing.{Synced, SyncGivesBy}
use Rattle.tw_cli.specs.Whole.{Models, Outside, from_link, IsHonestFor, IsRunFrom, IsRun}
use Rattle.tw_cli.specs.Agreement.{IsChainFor}
use Rattle.tw_cli.specs.Events.{OpensAmong, StandsFor, OpensReplica, RunsOn, IsEvent}
use Rattle.tw_cli.specs.declared.asked.Job.{Job}
use Rattle.tw_cli.specs.declared.asked.Job.TheVariants.{Here, Sync, Generate}
use Rattle.tw_cli.specs.declared.asked.LineError.{LineError}
use Rattle.tw_cli.specs.declared.cause.Cause.{Cause}
use Rattle.tw_cli.specs.declared.cause.Cause.TheVariants.{Done, OutFault}
use Rattle.tw_cli.proofs.Openings.{opens_one, leaves_either}

-- ---- states

widen : (states : List State) (next : Option State) (state : State) → IsAmong states state → IsAmong (with_next states next) state
widen states None state is = is
widen [] (Some next) state is = absurd is
widen (first ∷ states) (Some next) state (inl same) = inl same
widen (first ∷ states) (Some next) state (inr later) = inr (widen states (Some next) state later)

last : (states : List State) (next : State) → IsAmong (states ++ next ∷ []) next
last [] next = inl refl
last (first ∷ states) next = inr (last states next)

-- ---- what a run makes

-- the step of a command is a commit of a group, or an undo
work_makes : (request : Request) (old new : State) (work : Work) → applied old (step_in request.at old work) ≡ Some new → IsCommit old new ⊎ (undone old ≡ Some new)
work_makes request old new (Changes renumber changes marks) e =
    let all : List Change = changes ++ mask_changes request.at (changed_all old.tasks changes) marks in
    inl (record { renumber = renumber; ops = group_of (ops_of_all old.tasks all request.at); group = changes_are_group old.tasks all request.at; step = e })
work_makes request old new TakeBack e = inr e

carried_makes : (request : Request) (ids : IdWords) (answers : List TaskValue) (chain now : List Version) (old : State) (c : Carried) → carried_out request ids answers old ≡ Ok c → Makes chain now old (Some c.new)
carried_makes request ids answers chain now old c e = by (answered_with answers old.tasks (plan_of request ids old)) e
  where
    made : IsCommit old c.new ⊎ (undone old ≡ Some c.new) → Makes chain now old (Some c.new)
    made (inl commit) = inl commit
    made (inr undo) = inr (inl undo)

    by : (planned : Result Plan Refusal) → carried_by request old planned ≡ Ok c → Makes chain now old (Some c.new)
    by (Err refusal) f = absurd cc
    by (Ok plan) f = made (work_makes request old c.new plan.work (by_plan request old plan c f))

command_makes : (request : Request) (ids : IdWords) (answers : List TaskValue) (chain now : List Version) (state : State) → Makes chain now state (next_of request ids answers state)
command_makes request ids answers chain now state = by (carried_out request ids answers state) refl
  where
    by : (r : Result Carried Refusal) → carried_out request ids answers state ≡ r → Makes chain now state (new_of r)
    by (Err refusal) is = tt
    by (Ok c) is = carried_makes request ids answers chain now state c is

-- ---- the images of a run

module _ {D : Type 0} (m : DiskModel D) (d0 d1 : D) (states : List State) (stands : StandsFor m d0 states) (tells : Tells m d0) (seen_may_stay : (disk : D) → Tells m disk → m.leaves disk (m.seen disk)) where
  -- the state that the run opens
  abbrev pub seen : OpensAmong states (m.seen d0)
  seen = stands (m.seen d0) (seen_may_stay d0 tells)

  image_among : (file : List ℕ) → IsImageThen m d0 magic file → OpensAmong states file
  image_among file (inl was) = stands file was
  image_among file (inr same) =
      let bodies : seen.2.bodies ≡ same.0 = one_records magic (m.seen d0) seen.2.bodies same.0 seen.2.records same.1 in
      (seen.0, seen.1, record { bodies = seen.2.bodies; records = subst (Records magic file) (sym bodies) same.2; stands = seen.2.stands })

  opening_among : (file : List ℕ) → IsOpening m d0 file → OpensAmong states file
  opening_among file (inl image) = image_among file image
  opening_among file (inr alike) =
      let is : alike.state ≡ seen.0 = opens_one (m.seen d0) alike.state seen.0 alike.first seen.2 in
      (seen.0, seen.1, subst (OpensTo file) is alike.second)

  wider : (next : Option State) (file : List ℕ) → OpensAmong states file → OpensAmong (with_next states next) file
  wider next file o = (o.0, widen states next o.0 o.1, o.2)

  either_among : (next : Option State) (file : List ℕ) → OpensToEither seen.0 next file → OpensAmong (with_next states next) file
  either_among next file (inl same) = wider next file (seen.0, seen.1, same)
  either_among None file (inr none) = absurd none
  either_among (Some one) file (inr moved) = (one, last states one, moved)

  step_among : (next : State → Option State) (file : List ℕ) → IsStepOf (m.seen d0) next file → OpensAmong (with_next states (next seen.0)) file
  step_among next file step =
      let is : step.state ≡ seen.0 = opens_one (m.seen d0) step.state seen.0 step.opened seen.2 in
      either_among (next seen.0) file (subst (λ s. OpensToEither s (next s) file) is step.opens)

  records_among : LeavesRecords m d0 d1 → LeavesOnly m d0 d1 (OpensAmong states)
  records_among run = weaker m d0 d1 (IsOpening m d0) (OpensAmong states) (run tells) opening_among

  steps_among : (next : State → Option State) → LeavesEither m next d0 d1 → LeavesOnly m d0 d1 (OpensAmong (with_next states (next seen.0)))
  steps_among next run = weaker m d0 d1 (λ file. IsOpening m d0 file ⊎ IsStepOf (m.seen d0) next file) (OpensAmong (with_next states (next seen.0))) (run tells)
      (λ file left. ⊎_elim (λ opening. wider (next seen.0) file (opening_among file opening)) (step_among next file) left)

  module _ (counts_now : CountsNow m) (opens : Type 0) (cause : Cause) (chain now : List Version) (grows : Grows chain now) (served : IsServedChain chain → IsServedChain now) where
    cut_runs : (next : Option State) → Makes chain now seen.0 next → Runs chain now states (with_next states next)
    cut_runs next makes = record { state = seen.0; among = seen.1; next = next; makes = makes; leaves = inl refl; grows = grows; served = served }

    -- nothing is known of its end: the images of the end are images of the run
    ends_so : (next : Option State) → Makes chain now seen.0 next → LeavesOnly m d0 d1 (OpensAmong (with_next states next)) → (opens → (cause ≡ Done) ⊎ (cause ≡ OutFault) → ⊥) → RunsOn m d0 d1 opens cause chain now states
    ends_so next makes leaves never = record {
      left = with_next states next;
      runs = cut_runs next makes;
      stands = λ file left. leaves.each file (counts_now d1 (m.moment d0) file leaves.later left);
      done = λ opened done. absurd (never opened done);
      cut = with_next states next;
      cut_off = cut_runs next makes;
      any_moment = leaves;
    }

    -- it was carried out: the disk is settled, and opens to what the run makes
    ends_well : (one : State) → Makes chain now seen.0 (Some one) → IsStable m d1 → OpensTo (m.seen d1) one → (next : Option State) → Makes chain now seen.0 next → LeavesOnly m d0 d1 (OpensAmong (with_next states next)) → RunsOn m d0 d1 opens cause chain now states
    ends_well one makes settled there next cut_makes leaves = record {
      left = one ∷ [];
      runs = record { state = seen.0; among = seen.1; next = Some one; makes = makes; leaves = inr (one, refl, refl); grows = grows; served = served };
      stands = λ file left. (one, inl refl, subst (λ f. OpensTo f one) (sym (settled file left)) there);
      done = λ opened which. (one, refl);
      cut = with_next states next;
      cut_off = cut_runs next cut_makes;
      any_moment = leaves;
    }

    -- what is known at an end
    abbrev pub IsKnownAt : End → Type 0
    IsKnownAt Well = (one : State) × Makes chain now seen.0 (Some one) × IsStable m d1 × OpensTo (m.seen d1) one
    IsKnownAt Output = (one : State) × Makes chain now seen.0 (Some one) × IsStable m d1 × OpensTo (m.seen d1) one
    IsKnownAt Failed = Unit {0}

    not_done : end_of cause ≡ Failed → (cause ≡ Done) ⊎ (cause ≡ OutFault) → ⊥
    not_done failed (inl done) = (let e : Well ≡ Failed = sym (ap end_of done) ∙ failed in absurd cc)
    not_done failed (inr fault) = (let e : Output ≡ Failed = sym (ap end_of fault) ∙ failed in absurd cc)

    ends_at : (end : End) → end_of cause ≡ end → IsKnownAt end → (next : Option State) → Makes chain now seen.0 next → LeavesOnly m d0 d1 (OpensAmong (with_next states next)) → RunsOn m d0 d1 opens cause chain now states
    ends_at Well is k next makes leaves = ends_well k.0 k.1 k.2 k.3 next makes leaves
    ends_at Output is k next makes leaves = ends_well k.0 k.1 k.2 k.3 next makes leaves
    ends_at Failed is k next makes leaves = ends_so next makes leaves (λ opened done. not_done is done)

-- ---- a run of each job

no_growth : (chain : List Version) → Grows chain chain
no_growth chain = record { more = []; joined = sym (append-nil chain) }

module _ {D S O L P : Type 0} (m : DiskModel D) (sources : SourceModel S) (s : SinkModel O) (links : LinkModel L) (hooks : SpawnerModel P) (d0 d1 : D) (i0 i1 : S) (o0 o1 : O) (l0 l1 : L) (p0 p1 : P)
    (states : List State) (stands : StandsFor m d0 states) (tells : Tells m d0) (seen_may_stay : (disk : D) → Tells m disk → m.leaves disk (m.seen disk)) (counts_now : CountsNow m) (cause : Cause) where
  abbrev pub here : OpensAmong states (m.seen d0)
  here = stands (m.seen d0) (seen_may_stay d0 tells)

  opens_more : (more : List (List ℕ)) (old new : State) → HasMore (m.seen d0) (m.seen d1) more old new → OpensTo (m.seen d1) new
  opens_more more old new h = record { bodies = opened_bodies (m.seen d0) old h.bodies ++ more; records = h.has; stands = h.stands }

  opened_is : (more : List (List ℕ)) (old new : State) → HasMore (m.seen d0) (m.seen d1) more old new → old ≡ here.0
  opened_is more old new h = opens_one (m.seen d0) old here.0 (record { bodies = h.bodies; records = h.had; stands = h.stood }) here.2

  -- a command
  carried_known : (chain : List Version) (request : Request) (ids : IdWords) → CarriedOut m hooks request ids d0 d1 p0 p1 → (one : State) × Makes chain chain here.0 (Some one) × IsStable m d1 × OpensTo (m.seen d1) one
  carried_known chain request ids run =
      let has = run.disk tells in
      let is : run.old ≡ here.0 = opened_is (step_bodies run.carried.step) run.old run.carried.new has.0 in
      (run.carried.new, carried_makes request ids run.answers chain chain here.0 run.carried (subst (λ state. carried_out request ids run.answers state ≡ Ok run.carried) is run.is), has.1, opens_more (step_bodies run.carried.step) run.old run.carried.new has.0)

  command_known : (chain : List Version) (grows : Grows chain chain) (served : IsServedChain chain → IsServedChain chain) (request : Request) (ids : IdWords) (end : End) → GivesBy m sources hooks request ids d0 d1 i0 i1 p0 p1 s o0 o1 cause end → IsKnownAt m d0 d1 states stands tells seen_may_stay counts_now (OpensReplica (Ok (Here request))) cause chain chain grows served end
  command_known chain grows served request ids Well g = carried_known chain (with_input request g.0) ids g.2.0
  command_known chain grows served request ids Output g = carried_known chain (with_input request g.0.0) ids g.0.2.0
  command_known chain grows served request ids Failed g = tt

  command_runs : (chain : List Version) (request : Request) (ids : IdWords) → GivesBy m sources hooks request ids d0 d1 i0 i1 p0 p1 s o0 o1 cause (end_of cause) → LeavesCommand m sources hooks request ids d0 d1 i0 i1 p0 p1 cause → RunsOn m d0 d1 (OpensReplica (Ok (Here request))) cause chain chain states
  command_runs chain request ids gives (inl records) =
      ends_at m d0 d1 states stands tells seen_may_stay counts_now (OpensReplica (Ok (Here request))) cause chain chain (no_growth chain) (λ served. served) (end_of cause) refl (command_known chain (no_growth chain) (λ served. served) request ids (end_of cause) gives) None tt (records_among m d0 d1 states stands tells seen_may_stay records)
  command_runs chain request ids gives (inr with) =
      let r : Request = with_input request with.0 in
      ends_at m d0 d1 states stands tells seen_may_stay counts_now (OpensReplica (Ok (Here request))) cause chain chain (no_growth chain) (λ served. served) (end_of cause) refl (command_known chain (no_growth chain) (λ served. served) request ids (end_of cause) gives)
      (next_of r ids with.2.answers here.0) (command_makes r ids with.2.answers chain chain here.0) (steps_among m d0 d1 states stands tells seen_may_stay (next_of r ids with.2.answers) (leaves_either m (next_of r ids with.2.answers) d0 d1 cause with.2.leaves))

  -- a sync, over a chain that grew while it asked for a snapshot
  module _ (chain : List Version) (g : Grows chain (links.chain l0)) (start : Start) (sound : IsSoundStart start (links.chain l1)) where
    makes_sync : (state next : State) → MayStart start state → (answer : Answer) → EndFrom answer start state next (server_chain links l0) (server_chain links l1) → Makes chain (links.chain l1) state (Some next)
    makes_sync state next may answer ended = inr (inr (record {
      own = links.own l0;
      own_now = links.own l1;
      answer = answer;
      from = starts_at (from_state start state);
      sound = starts_soundly start state (links.chain l1) may sound;
      ended = ends_before answer state (starts_at (from_state start state)) next (record { chain = chain; own = links.own l0 }) (server_chain links l0) (server_chain links l1) g refl ended;
    }))

    end_makes : (state : State) (next : Option State) → IsSyncOf start state next → IsEndIn start state (server_chain links l0) (server_chain links l1) next → Makes chain (links.chain l1) state next
    end_makes state None made end = tt
    end_makes state (Some next) made end = makes_sync state next made.1.may end.0 end.1

    synced_known : (server : ServerSettings) (report : SyncReport) → IsHonest links l0 server.client → Synced m links server start d0 d1 l0 l1 report → (one : State) × Makes chain (links.chain l1) here.0 (Some one) × IsStable m d1 × OpensTo (m.seen d1) one
    synced_known server report honest run =
        let has = run.disk tells in
        let is : run.old ≡ here.0 = opened_is has.bodies run.old run.new has.more in
        (run.new, subst (λ state. Makes chain (links.chain l1) state (Some run.new)) is (makes_sync run.old run.new run.may (DoneSync (counts_of report)) (run.ended honest)), has.settled, opens_more has.bodies run.old run.new has.more)

    sync_known : (grows : Grows chain (links.chain l1)) (served : IsServedChain chain → IsServedChain (links.chain l1)) (server : ServerSettings) → IsHonest links l0 server.client → (end : End) → SyncGivesBy m s links server start d0 d1 o0 o1 l0 l1 cause end
        → IsKnownAt m d0 d1 states stands tells seen_may_stay counts_now (OpensReplica (Ok (Sync server))) cause chain (links.chain l1) grows served end
    sync_known grows served server honest Well g = synced_known server g.0 honest g.1
    sync_known grows served server honest Output g = synced_known server g.0.0 honest g.0.1
    sync_known grows served server honest Failed g = tt

    sync_runs : Grows chain (links.chain l1) → (IsServedChain chain → IsServedChain (links.chain l1)) → (server : ServerSettings) → IsHonest links l0 server.client → SyncGivesBy m s links server start d0 d1 o0 o1 l0 l1 cause (end_of cause) → LeavesSync m links server start d0 d1 l0 l1 cause
        → RunsOn m d0 d1 (OpensReplica (Ok (Sync server))) cause chain (links.chain l1) states
    sync_runs grows served server honest gives run =
        let r : LeavesOneEnd m links server start d0 d1 l0 l1 cause = run tells in
        ends_at m d0 d1 states stands tells seen_may_stay counts_now (OpensReplica (Ok (Sync server))) cause chain (links.chain l1) grows served (end_of cause) refl (sync_known grows served server honest (end_of cause) gives)
        r.next (end_makes here.0 r.next (r.made here.0 here.2) (r.end honest here.0 here.2)) (steps_among m d0 d1 states stands tells seen_may_stay (λ state. r.next) (leaves_either m (λ state. r.next) d0 d1 cause r.leaves))

  -- nothing is opened
  nothing_runs : OnlyNow m → (asked : Result Job LineError) → (OpensReplica asked → ⊥) → (chain : List Version) → d1 ≡ d0 → RunsOn m d0 d1 (OpensReplica asked) cause chain chain states
  nothing_runs only_now asked never chain same =
      let at : LeavesOnly m d0 d0 (OpensAmong states) = started m only_now d0 (OpensAmong states) stands in
      ends_so m d0 d1 states stands tells seen_may_stay counts_now (OpensReplica asked) cause chain chain (no_growth chain) (λ served. served) None tt (subst (λ d. LeavesOnly m d0 d (OpensAmong states)) (sym same) at) (λ opened done. never opened)

module _ {D S O L P F J : Type 0} (m : Models D S O L P F J) (w : Outside D S O L P F J)
    (states : List State) (stands : StandsFor m.disk w.d0 states) (tells : Tells m.disk w.d0) (seen_may_stay : (disk : D) → Tells m.disk disk → m.disk.leaves disk (m.disk.seen disk)) (counts_now : CountsNow m.disk) (cause : Cause) where
  abbrev Happens : (opens : Type 0) → (chain now : List Version) → Type 0
  Happens opens chain now = RunsOn m.disk w.d0 w.d1 opens cause chain now states

  nothing_happens : OnlyNow m.disk → (asked : Result Job LineError) → (OpensReplica asked → ⊥) → (chain : List Version) → w.d1 ≡ w.d0 → Happens (OpensReplica asked) chain chain
  nothing_happens = nothing_runs m.disk m.source m.sink m.link m.spawner w.d0 w.d1 w.i0 w.i1 w.o0 w.o1 w.l0 w.l1 w.p0 w.p1 states stands tells seen_may_stay counts_now cause

  -- a run of a command line, whatever it asks for, is an event, also over a chain that grew before it
  pub runs_on : OnlyNow m.disk → ((link : L) → IsChainOf m.link link) → (start : Start) → IsSoundStart start (m.link.chain w.l1) → (asked : Result Job LineError) (old : IdWords) → IsRunFrom m start asked old w cause → IsHonestFor m.link asked w.l0
      → (l0 : L) → Grows (m.link.chain l0) (m.link.chain w.l0) → (chain now : List Version) → IsChainFor m.link asked l0 w.l1 chain now → Happens (OpensReplica asked) chain now
  runs_on only_now tells_chain start sound (Ok (Here request)) old run honest l0 g chain now same =
      subst (Happens (OpensReplica (Ok (Here request))) chain) (sym same) (command_runs m.disk m.source m.sink m.link m.spawner w.d0 w.d1 w.i0 w.i1 w.o0 w.o1 w.l0 w.l1 w.p0 w.p1 states stands tells seen_may_stay counts_now cause chain request old run.gives.0 run.any_moment)
  runs_on only_now tells_chain start sound (Ok (Sync server)) old run honest l0 g chain now same =
      let whole : IsServedChain (m.link.chain w.l1) = tells_chain w.l1 (record { honest = subst IsTrue (sym run.link_kept.honest) honest.honest; tells = subst IsTrue (sym run.link_kept.tells_chain) honest.tells }) in
      let at : Happens (OpensReplica (Ok (Sync server))) (m.link.chain l0) (m.link.chain w.l1) =
      sync_runs m.disk m.source m.sink m.link m.spawner w.d0 w.d1 w.i0 w.i1 w.o0 w.o1 w.l0 w.l1 w.p0 w.p1 states stands tells seen_may_stay counts_now cause (m.link.chain l0) g start sound
      (grows_on (m.link.chain l0) (m.link.chain w.l0) (m.link.chain w.l1) g (run.grows honest)) (λ served. whole) server honest run.gives run.any_moment in
      subst (λ c. Happens (OpensReplica (Ok (Sync server))) c now) (sym same.0) (subst (Happens (OpensReplica (Ok (Sync server))) (m.link.chain l0)) (sym same.1) at)
  runs_on only_now tells_chain start sound (Ok (Generate line settings)) old run honest l0 g chain now same =
      subst (Happens (OpensReplica (Ok (Generate line settings))) chain) (sym same) (nothing_happens only_now (Ok (Generate line settings)) (λ none. none) chain run.gives.1)
  runs_on only_now tells_chain start sound (Err error) old run honest l0 g chain now same =
      subst (Happens (OpensReplica (Err error)) chain) (sym same) (nothing_happens only_now (Err error) (λ none. none) chain run.gives.1)

module _ {D S O L P F J : Type 0} (m : Models D S O L P F J) (w : Outside D S O L P F J) where
  pub is_event : ((disk : D) → Tells m.disk disk → m.disk.leaves disk (m.disk.seen disk)) → CountsNow m.disk → OnlyNow m.disk → ((link : L) → IsChainOf m.link link)
      → (asked : Result Job LineError) (old new : IdWords) (cause : Cause) → IsRun m asked old new w cause → IsEvent m.disk m.link asked w cause
  is_event seen_may_stay counts_now only_now tells_chain asked old new cause run chain now states tells honest sound stands same =
      if_sound m.disk m.link w.d0 w.l0 w.l1 cause asked (λ start begun. IsRunFrom m start asked old (from_link w begun) cause) (RunsOn m.disk w.d0 w.d1 (OpensReplica asked) cause chain now states) tells honest sound
      (λ start begun at known.
      runs_on m (from_link w begun) states stands tells seen_may_stay counts_now cause only_now tells_chain start at.sound asked old known at.honest w.l0 at.grows chain now same)
      run.run
