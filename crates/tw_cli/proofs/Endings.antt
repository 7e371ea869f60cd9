-- How a run ends once its text is known, or once it has failed.
use Rattle.std.proofs.Common.{◌≡◌, ◌∙◌, ◌⊎◌, inl, inr, ap, sym, subst, refl, List, ℕ, Ok, Err}
use Rattle.tw_world.specs.Disk.{DiskModel, Rose}
use Rattle.tw_world.specs.Sink.{SinkModel, Got, GotPart}
use Rattle.tw_world.specs.Source.{SourceModel}
use Rattle.tw_world.specs.declared.ids.IdWords.{IdWords}
use Rattle.tw_http.specs.Link.{LinkModel}
use Rattle.tw_journal.specs.declared.error.AppendError.{AppendError}
use Rattle.tw_journal.specs.declared.error.AppendError.TheVariants as journal
use Rattle.tw_journal.specs.declared.error.JournalError.{JournalError}
use Rattle.tw_journal.specs.declared.error.JournalError.TheVariants as hours
use Rattle.timew_store.specs.declared.error.LoadError.{LoadError}
use Rattle.timew_store.specs.declared.error.LoadError.TheVariants as load
use Rattle.tw_sync.specs.declared.error.SyncError.{SyncError}
use Rattle.tw_sync.specs.declared.error.SyncError.TheVariants as syncs
use Rattle.tw_changes.specs.declared.request.Request.{Request}
use Rattle.tw_hooks.specs.declared.error.HookError.{HookError}
use Rattle.tw_hooks.specs.declared.error.HookError.TheVariants as hook
use Rattle.tw_spawn.specs.Spawner.{SpawnerModel}
use Rattle.tw_changes.specs.declared.refusal.Refusal.{Refusal}
use Rattle.tw_changes.specs.declared.refusal.Refusal.TheVariants as refusal
use Rattle.tw_ending.specs.Ending.{EndsPrinting}
use Rattle.tw_ending.specs.Ending.End.{Well, Failed}
use Rattle.tw_cli.specs.Cause.{end_of, open_cause, input_cause, refusal_cause, hook_cause, track_cause, load_cause, carry_cause, journal_cause, sync_cause, failure_cause}
use Rattle.tw_cli.specs.Run.{NotCarried, GivesBy, Gives, IsDoneOrWant, IsDoneOrTaken, IsWantOrTaken}
use Rattle.tw_sync.specs.Start.{Start}
use Rattle.tw_sync.specs.declared.report.SyncReport.{SyncReport}
use Rattle.tw_cli.specs.Text.{synced_text}
use Rattle.tw_cli.specs.Crash.{LeavesSync}
use Rattle.tw_cli.specs.SyncRuns.{SyncRuns, SyncEndsRun}
use Rattle.tw_cli.specs.Syncing.{AsksInVain, NewAsks, NotSynced, SyncGivesBy, SyncGives}
use Rattle.tw_settings.specs.declared.server.ServerSettings.{ServerSettings}
use Rattle.tw_replica.specs.declared.error.OpenError.{OpenError}
use Rattle.tw_replica.specs.declared.error.OpenError.TheVariants as opening
use Rattle.tw_cli.specs.declared.input.InputError.{InputError}
use Rattle.tw_cli.specs.declared.input.InputError.TheVariants as input
use Rattle.tw_cli.specs.declared.carry.CarryError.{CarryError}
use Rattle.tw_cli.specs.declared.carry.CarryError.TheVariants as carry
use Rattle.tw_cli.specs.declared.syncing.SyncFailure.{SyncFailure}
use Rattle.tw_cli.specs.declared.syncing.SyncFailure.TheVariants as failure
use Rattle.tw_cli.specs.declared.cause.Cause.{Cause}
use Rattle.tw_cli.specs.declared.cause.Cause.TheVariants.{Done, OutFault}

-- ---- an error ends a run as one that failed

open_fails : (e : OpenError) → end_of (open_cause e) ≡ Failed
open_fails opening.Disk = refl
open_fails (opening.Damaged offset) = refl
open_fails opening.Memory = refl
open_fails (opening.TooLong bytes) = refl

refusal_fails : (r : Refusal) → end_of (refusal_cause r) ≡ Failed
refusal_fails refusal.NoMatch = refl
refusal_fails refusal.NothingToUndo = refl
refusal_fails (refusal.BadWords word kind) = refl
refusal_fails (refusal.IdTaken uuid) = refl
refusal_fails (refusal.Cycle uuid) = refl
refusal_fails (refusal.BadInput index name) = refl

input_fails : (e : InputError) → end_of (input_cause e) ≡ Failed
input_fails input.Fault = refl
input_fails input.TooLong = refl
input_fails input.Memory = refl

hook_fails : (e : HookError) → end_of (hook_cause e) ≡ Failed
hook_fails (hook.Refused name status) = refl
hook_fails (hook.Answer name) = refl
hook_fails hook.Fault = refl
hook_fails hook.Memory = refl

track_fails : (e : JournalError) → end_of (track_cause e) ≡ Failed
track_fails hours.Disk = refl
track_fails hours.Closed = refl
track_fails (hours.Damaged offset) = refl
track_fails (hours.TooLong bytes) = refl
track_fails hours.Memory = refl

load_fails : (e : LoadError) → end_of (load_cause e) ≡ Failed
load_fails load.Folder = refl
load_fails (load.Journal e) = track_fails e
load_fails (load.BadLine file line) = refl
load_fails load.Memory = refl

pub carry_fails : (e : CarryError) → end_of (carry_cause e) ≡ Failed
carry_fails (carry.Open e) = open_fails e
carry_fails (carry.Input e) = input_fails e
carry_fails (carry.Refused r) = refusal_fails r
carry_fails (carry.Hook e) = hook_fails e
carry_fails (carry.TooLong bytes) = refl
carry_fails carry.Disk = refl
carry_fails carry.Memory = refl
carry_fails (carry.Load e) = load_fails e
carry_fails (carry.HoursTooLong bytes) = refl
carry_fails carry.Track = refl

journal_fails : (e : AppendError) → end_of (journal_cause e) ≡ Failed
journal_fails journal.Disk = refl
journal_fails journal.Closed = refl
journal_fails (journal.TooLong bytes) = refl

sync_fails : (e : SyncError) → end_of (sync_cause e) ≡ Failed
sync_fails (syncs.Journal e) = journal_fails e
sync_fails syncs.Link = refl
sync_fails (syncs.Reply kind) = refl
sync_fails (syncs.Gone base) = refl
sync_fails (syncs.Busy parent) = refl
sync_fails (syncs.OutOfSync base parent) = refl
sync_fails (syncs.Segment version) = refl
sync_fails (syncs.SegmentTooLong bytes) = refl
sync_fails (syncs.PullTooLong bytes) = refl
sync_fails syncs.Memory = refl

failure_fails : (e : SyncFailure) → end_of (failure_cause e) ≡ Failed
failure_fails (failure.Open e) = open_fails e
failure_fails (failure.Sync e) = sync_fails e

pub failed_gives : {D S P O : Type 0} (m : DiskModel D) (sources : SourceModel S) (hooks : SpawnerModel P) (request : Request) (ids : IdWords) (d0 d1 : D) (i0 i1 : S) (p0 p1 : P) (s : SinkModel O) (o : O) (e : CarryError) (cause : Cause) → cause ≡ carry_cause e → NotCarried m sources hooks request ids d0 d1 i0 i1 p0 p1 e
    → Gives m sources hooks request ids d0 d1 i0 i1 p0 p1 s o o cause
failed_gives m sources hooks request ids d0 d1 i0 i1 p0 p1 s o e cause is why =
    subst (Gives m sources hooks request ids d0 d1 i0 i1 p0 p1 s o o) (sym is) (subst (GivesBy m sources hooks request ids d0 d1 i0 i1 p0 p1 s o o (carry_cause e)) (sym (carry_fails e)) (e, refl, why, refl))

failed_sync_gives : {D O L : Type 0} (m : DiskModel D) (s : SinkModel O) (links : LinkModel L) (server : ServerSettings) (start : Start) (d0 d1 : D) (o : O) (l0 l1 : L) (e : SyncFailure) (cause : Cause) → cause ≡ failure_cause e → NotSynced m links server start d0 d1 l0 l1 e → SyncGives m s links server start d0 d1 o o l0 l1 cause
failed_sync_gives m s links server start d0 d1 o l0 l1 e cause is why =
    subst (SyncGives m s links server start d0 d1 o o l0 l1) (sym is) (subst (SyncGivesBy m s links server start d0 d1 o o l0 l1 (failure_cause e)) (sym (failure_fails e)) (e, refl, why, refl))

-- ---- a text is printed

module _ {O : Type 0} (s : SinkModel O) (o0 o1 : O) (text : List ℕ) (cause : Cause) where
  -- what holds at both ends of a print holds at its end
  pub at_end : (P : Cause → Type 0) → EndsPrinting s o0 o1 text Done OutFault cause → (Got s o0 o1 text → P Done) → (GotPart s o0 o1 text → Rose (s.faults o0) (s.faults o1) → P OutFault) → P cause
  at_end P (inl done) whole part = subst P (sym done.0) (whole done.1)
  at_end P (inr failed) whole part = subst P (sym failed.0) (part failed.1 failed.2)

  pub ends_well : EndsPrinting s o0 o1 text Done OutFault cause → (Rose (s.faults o0) (s.faults o1) → ⊥) → IsDoneOrWant cause
  ends_well (inl done) well = inl done.0
  ends_well (inr failed) well = absurd (well failed.2)

-- ---- a sync

-- one that was done has asked for what it asks for
never_in_vain : {L : Type 0} (l0 l1 : L) → AsksInVain l0 l1 Done → ⊥
never_in_vain l0 l1 (inl refused) = (let e : Well ≡ Failed = ap end_of refused.1 ∙ open_fails refused.0 in absurd cc)
never_in_vain l0 l1 (inr (inl link)) = absurd cc
never_in_vain l0 l1 (inr (inr memory)) = absurd cc

asks_well : {L A : Type 0} (l0 l1 : L) (cause : Cause) → A ⊎ AsksInVain l0 l1 Done → A ⊎ AsksInVain l0 l1 cause
asks_well l0 l1 cause (inl asked) = inl asked
asks_well l0 l1 cause (inr vain) = absurd (never_in_vain l0 l1 vain)

module _ {D O L : Type 0} (m : DiskModel D) (s : SinkModel O) (links : LinkModel L) (server : ServerSettings) (d0 d1 : D) where
  -- it was done, and its text is printed
  pub synced_ends : (o0 o1 : O) (l0 l1 : L) (report : SyncReport) (text : List ℕ) (cause : Cause) → text ≡ synced_text report → EndsPrinting s o0 o1 text Done OutFault cause → SyncRuns m links server d0 d1 l0 l1 (Ok report) → SyncEndsRun m s links server d0 d1 o0 o1 l0 l1 cause
  synced_ends o0 o1 l0 l1 report text cause is print run =
      let start = run.0.start in
      let begun = run.0.begun in
      let left : LeavesSync m links server start d0 d1 begun l1 Done = run.1.any_moment in (
        run.0,
        record {
          gives = at_end s o0 o1 text cause (SyncGives m s links server start d0 d1 o0 o1 begun l1) print (λ got. (report, run.1.synced, subst (Got s o0 o1) is got)) (λ part rose. ((report, run.1.synced, subst (GotPart s o0 o1) is part), rose));
          complete = λ can well. inl (ends_well s o0 o1 text cause print well);
          any_moment = at_end s o0 o1 text cause (LeavesSync m links server start d0 d1 begun l1) print (λ got. left) (λ part rose tells. let r = left tells in record { next = r.next; made = r.made; end = r.end; leaves = r.leaves });
          grows = run.1.grows;
          link_kept = run.1.link_kept;
        },
        at_end s o0 o1 text cause (λ of. NewAsks m links server d0 l0 begun l1 of) print (λ got. run.2) (λ part rose tells state opens fresh. asks_well l0 l1 OutFault (run.2 tells state opens fresh)),
      )

  -- it was not done
  pub failed_ends : (o : O) (l0 l1 : L) (e : SyncFailure) (cause : Cause) → cause ≡ failure_cause e → SyncRuns m links server d0 d1 l0 l1 (Err e) → SyncEndsRun m s links server d0 d1 o o l0 l1 cause
  failed_ends o l0 l1 e cause is run = (
    run.0,
    record {
      gives = failed_sync_gives m s links server run.0.start d0 d1 o run.0.begun l1 e cause is run.1.refused;
      complete = λ can well. subst IsDoneOrTaken (sym is) (wants_or (failure_cause e) (run.1.complete can));
      any_moment = subst (LeavesSync m links server run.0.start d0 d1 run.0.begun l1) (sym is) run.1.any_moment;
      grows = run.1.grows;
      link_kept = run.1.link_kept;
    },
    subst (NewAsks m links server d0 l0 run.0.begun l1) (sym is) run.2,
  )
    where
      wants_or : (c : Cause) → IsWantOrTaken c → IsDoneOrTaken c
      wants_or c (inl want) = inl (inr want)
      wants_or c (inr taken) = inr taken
