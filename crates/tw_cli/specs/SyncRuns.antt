-- All that is known of a sync, from where it starts.
use Rattle.std.specs.Prelude.{Result, IfOk, IfErr}
use Rattle.tw_world.specs.Disk.{DiskModel}
use Rattle.tw_world.specs.Sink.{SinkModel}
use Rattle.tw_http.specs.Link.{LinkModel, IsHonest}
use Rattle.tw_protocol.specs.Chain.{Grows}
use Rattle.tw_sync.specs.Replies.Answers.{IsLinkKept}
use Rattle.tw_sync.specs.Start.{Start}
use Rattle.tw_sync.specs.declared.report.SyncReport.{SyncReport}
use Rattle.tw_settings.specs.declared.server.ServerSettings.{ServerSettings}
use Rattle.tw_ending.specs.Ending.{HasNotFailed}
use Rattle.tw_cli.specs.Cause.{failure_cause, ended}
use Rattle.tw_cli.specs.Run.{IsDoneOrTaken, IsWantOrTaken}
use Rattle.tw_cli.specs.Crash.{LeavesSync}
use Rattle.tw_cli.specs.Syncing.{SyncStart, NewAsks, Synced, NotSynced, SyncGives, CanBeSynced}
use Rattle.tw_cli.specs.declared.syncing.SyncFailure.{SyncFailure}
use Rattle.tw_cli.specs.declared.cause.Cause.{Cause}

module _ {D L : Type 0} (m : DiskModel D) (links : LinkModel L) (server : ServerSettings) where
  -- a sync of the replica that a disk holds
  pub record SyncRunsFrom (start : Start) (d0 d1 : D) (l0 l1 : L) (result : Result SyncReport SyncFailure) : Type 0 where
    pub synced : IfOk result (Synced m links server start d0 d1 l0 l1)
    pub refused : IfErr result (NotSynced m links server start d0 d1 l0 l1)
    pub complete : IfErr result (λ e. CanBeSynced m links server start d0 d1 l0 l1 → IsWantOrTaken (failure_cause e))
    pub any_moment : LeavesSync m links server start d0 d1 l0 l1 (ended failure_cause result)
    pub grows : IsHonest links l0 server.client → Grows (links.chain l0) (links.chain l1)
    pub link_kept : IsLinkKept links l0 l1

  abbrev pub SyncRuns : (d0 d1 : D) (l0 l1 : L) → Result SyncReport SyncFailure → Type 0
  SyncRuns d0 d1 l0 l1 result = (s : SyncStart m links server d0 l0 l1) × SyncRunsFrom s.start d0 d1 s.begun l1 result
      × NewAsks m links server d0 l0 s.begun l1 (ended failure_cause result)

module _ {D O L : Type 0} (m : DiskModel D) (sinks : SinkModel O) (links : LinkModel L) (server : ServerSettings) where
  -- and what it prints
  pub record SyncEndsFrom (start : Start) (d0 d1 : D) (o0 o1 : O) (l0 l1 : L) (cause : Cause) : Type 0 where
    pub gives : SyncGives m sinks links server start d0 d1 o0 o1 l0 l1 cause
    pub complete : CanBeSynced m links server start d0 d1 l0 l1 → HasNotFailed sinks o0 o1 → IsDoneOrTaken cause
    pub any_moment : LeavesSync m links server start d0 d1 l0 l1 cause
    pub grows : IsHonest links l0 server.client → Grows (links.chain l0) (links.chain l1)
    pub link_kept : IsLinkKept links l0 l1

  abbrev pub SyncEndsRun : (d0 d1 : D) (o0 o1 : O) (l0 l1 : L) → Cause → Type 0
  SyncEndsRun d0 d1 o0 o1 l0 l1 cause = (s : SyncStart m links server d0 l0 l1) × SyncEndsFrom s.start d0 d1 o0 o1 s.begun l1 cause
      × NewAsks m links server d0 l0 s.begun l1 cause
