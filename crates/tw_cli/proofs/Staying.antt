-- A run that was not carried out leaves the state.
use Rattle.std.proofs.Common.{◌≡◌, sym, subst, List, ℕ, false, [], ◌++◌, Result, Ok, Err}
use Rattle.std.proofs.lemmas.Bool.{true≢false}
use Rattle.tw_world.specs.Disk.{DiskModel, Tells}
use Rattle.tw_world.specs.Source.{SourceModel}
use Rattle.tw_spawn.specs.Spawner.{SpawnerModel}
use Rattle.tw_world.specs.declared.ids.IdWords.{IdWords}
use Rattle.tw_http.specs.Link.{LinkModel}
use Rattle.tw_journal.specs.declared.error.AppendError.TheVariants as journal
use Rattle.tw_state.specs.State.{State}
use Rattle.tw_replica.specs.Replica.{OpensTo, SameState, OpeningRefused}
use Rattle.tw_replica.specs.Opening.{opened_bodies}
use Rattle.tw_replica.specs.declared.error.OpenError.{OpenError}
use Rattle.tw_replica.specs.declared.error.OpenError.TheVariants as opening
use Rattle.tw_replica.proofs.Replaying.{opens_as_before}
use Rattle.tw_sync.specs.Start.{Start}
use Rattle.tw_sync.specs.declared.error.SyncError.{SyncError}
use Rattle.tw_sync.specs.declared.error.SyncError.TheVariants as syncs
use Rattle.tw_settings.specs.declared.server.ServerSettings.{ServerSettings}
use Rattle.tw_changes.specs.declared.request.Request.{Request}
use Rattle.tw_cli.specs.Opening.{Stays, KeepsState}
use Rattle.tw_cli.specs.Cause.{may_write, open_cause, carry_cause, sync_cause, failure_cause}
use Rattle.tw_ending.specs.Ending.End.{Failed}
use Rattle.tw_cli.specs.Run.{NotCarried, GivesBy}
use Rattle.tw_cli.specs.Syncing.{SyncEnds, NotSynced, SyncGivesBy}
use Rattle.tw_cli.specs.Whole.{Models, Outside, RunGives}
use Rattle.tw_cli.specs.declared.asked.Job.{Job}
use Rattle.tw_cli.specs.declared.asked.Job.TheVariants.{Here, Sync, Generate}
use Rattle.tw_cli.specs.declared.asked.LineError.{LineError}
use Rattle.tw_cli.specs.declared.carry.CarryError.{CarryError}
use Rattle.tw_cli.specs.declared.carry.CarryError.TheVariants as carry
use Rattle.tw_cli.specs.declared.syncing.SyncFailure.{SyncFailure}
use Rattle.tw_cli.specs.declared.syncing.SyncFailure.TheVariants as failure
use Rattle.tw_cli.specs.declared.cause.Cause.{Cause}
use Rattle.tw_cli.proofs.Openings.{opens_one}

same_by : (before after : List ℕ) (s : State) → OpensTo before s → OpensTo after s → SameState before after
same_by before after s first second = λ state. (
  λ opens. subst (OpensTo after) (opens_one before s state first opens) second,
  λ opens. subst (OpensTo before) (opens_one after s state second opens) first,
)

module _ {D : Type 0} (m : DiskModel D) (d0 d1 : D) where
  untouched_stays : d1 ≡ d0 → SameState (m.seen d0) (m.seen d1)
  untouched_stays same = subst (λ (d : D). SameState (m.seen d0) (m.seen d)) (sym same) (λ state. (λ opens. opens, λ opens. opens))

  records_stay : (s : State) → Stays m d0 d1 s → Tells m d0 → SameState (m.seen d0) (m.seen d1)
  records_stay s stays tells =
      let has = stays tells in
      same_by (m.seen d0) (m.seen d1) s (record { bodies = has.bodies; records = has.had; stands = has.stood })
      (record { bodies = opened_bodies (m.seen d0) s has.bodies ++ []; records = has.has; stands = has.stands })

  opening_stays : (e : OpenError) → may_write (open_cause e) ≡ false → OpeningRefused m d0 d1 e → Tells m d0 → SameState (m.seen d0) (m.seen d1)
  opening_stays opening.Disk spared why tells = absurd (true≢false spared)
  opening_stays (opening.Damaged offset) spared why tells = (opens_as_before (m.seen d0) (m.seen d1) (why tells).1).state
  opening_stays opening.Memory spared why tells = (why tells).state
  opening_stays (opening.TooLong bytes) spared why tells = (why tells).1.state

  carrying_stays : {S P : Type 0} (sources : SourceModel S) (hooks : SpawnerModel P) (i0 i1 : S) (p0 p1 : P) (request : Request) (ids : IdWords) (e : CarryError) → may_write (carry_cause e) ≡ false → NotCarried m sources hooks request ids d0 d1 i0 i1 p0 p1 e → Tells m d0 → SameState (m.seen d0) (m.seen d1)
  carrying_stays sources hooks i0 i1 p0 p1 request ids (carry.Open e) spared why tells = opening_stays e spared why.0 tells
  carrying_stays sources hooks i0 i1 p0 p1 request ids (carry.Input e) spared why tells = records_stay why.0.state why.0.stays tells
  carrying_stays sources hooks i0 i1 p0 p1 request ids (carry.Refused refusal) spared why tells = records_stay why.2.state why.2.stays tells
  carrying_stays sources hooks i0 i1 p0 p1 request ids (carry.Hook e) spared why tells = records_stay why.2.1.state why.2.1.stays tells
  carrying_stays sources hooks i0 i1 p0 p1 request ids (carry.TooLong bytes) spared why tells = records_stay why.2.state why.2.stays tells
  carrying_stays sources hooks i0 i1 p0 p1 request ids carry.Disk spared why tells = absurd (true≢false spared)
  carrying_stays sources hooks i0 i1 p0 p1 request ids carry.Memory spared why tells = records_stay why.0.0 why.0.1 tells
  carrying_stays sources hooks i0 i1 p0 p1 request ids (carry.Load e) spared why tells = records_stay why.2.state why.2.stays tells
  carrying_stays sources hooks i0 i1 p0 p1 request ids (carry.HoursTooLong bytes) spared why tells = records_stay why.1.2.state why.1.2.stays tells
  carrying_stays sources hooks i0 i1 p0 p1 request ids carry.Track spared why tells = absurd (true≢false spared)

  module _ {L : Type 0} (links : LinkModel L) (start : Start) (l0 l1 : L) where
    refusal_stays : (server : ServerSettings) (e : SyncError) → may_write (sync_cause e) ≡ false → SyncEnds m links server start d0 d1 l0 l1 e → Tells m d0 → SameState (m.seen d0) (m.seen d1)
    refusal_stays server (syncs.Journal journal.Disk) spared why tells = absurd (true≢false spared)
    refusal_stays server (syncs.Journal journal.Closed) spared why tells = absurd (true≢false spared)
    refusal_stays server (syncs.Journal (journal.TooLong bytes)) spared why tells = records_stay why.1.state why.1.stays tells
    refusal_stays server syncs.Link spared why tells = absurd (true≢false spared)
    refusal_stays server (syncs.Reply kind) spared why tells = absurd (true≢false spared)
    refusal_stays server (syncs.Gone base) spared why tells = absurd (true≢false spared)
    refusal_stays server (syncs.Busy parent) spared why tells = absurd (true≢false spared)
    refusal_stays server (syncs.OutOfSync base parent) spared why tells = absurd (true≢false spared)
    refusal_stays server (syncs.Segment version) spared why tells = absurd (true≢false spared)
    refusal_stays server (syncs.SegmentTooLong bytes) spared why tells = absurd (true≢false spared)
    refusal_stays server (syncs.PullTooLong bytes) spared why tells = absurd (true≢false spared)
    refusal_stays server syncs.Memory spared why tells = records_stay why.state why.stays tells

    syncing_stays : (server : ServerSettings) (e : SyncFailure) → may_write (failure_cause e) ≡ false → NotSynced m links server start d0 d1 l0 l1 e → Tells m d0 → SameState (m.seen d0) (m.seen d1)
    syncing_stays server (failure.Open e) spared why tells = opening_stays e spared why.0 tells
    syncing_stays server (failure.Sync e) spared why tells = refusal_stays server e spared why tells

module _ {D S O L P F J : Type 0} (m : Models D S O L P F J) (w : Outside D S O L P F J) where
  pub state_stays : (asked : Result Job LineError) (ids : IdWords) (cause : Cause) → RunGives m asked ids w cause → KeepsState m.disk w.d0 w.d1 cause
  state_stays (Ok (Here request)) ids cause gives = λ failed spared tells.
      let why : GivesBy m.disk m.source m.spawner request ids w.d0 w.d1 w.i0 w.i1 w.p0 w.p1 m.sink w.o0 w.o1 cause Failed = subst (GivesBy m.disk m.source m.spawner request ids w.d0 w.d1 w.i0 w.i1 w.p0 w.p1 m.sink w.o0 w.o1 cause) failed gives.0 in
      carrying_stays m.disk w.d0 w.d1 m.source m.spawner w.i0 w.i1 w.p0 w.p1 request ids why.0 (subst (λ (c : Cause). may_write c ≡ false) why.1 spared) why.2 tells
  state_stays (Ok (Sync server)) ids cause gives = λ failed spared tells.
      let why : SyncGivesBy m.disk m.sink m.link server gives.0.start w.d0 w.d1 w.o0 w.o1 gives.0.begun w.l1 cause Failed = subst (SyncGivesBy m.disk m.sink m.link server gives.0.start w.d0 w.d1 w.o0 w.o1 gives.0.begun w.l1 cause) failed gives.1 in
      syncing_stays m.disk w.d0 w.d1 m.link gives.0.start gives.0.begun w.l1 server why.0 (subst (λ (c : Cause). may_write c ≡ false) why.1 spared) why.2 tells
  state_stays (Ok (Generate line settings)) ids cause gives = λ failed spared tells. untouched_stays m.disk w.d0 w.d1 gives.1
  state_stays (Err error) ids cause gives = λ failed spared tells. untouched_stays m.disk w.d0 w.d1 gives.1
