-- What is known of a whole sync, with its opening.
use Rattle.std.proofs.Common.{◌≡◌, ◌⊎◌, inl, inr, ap, sym, subst, refl, List, ℕ, false, Result, Ok, Err}
use Rattle.tw_world.specs.Disk.{DiskModel, Tells, FaultsRise}
use Rattle.tw_http.specs.Link.{LinkModel, IsHonest}
use Rattle.tw_state.specs.State as states
use Rattle.tw_replica.specs.Opening.{IsOpenedReplica}
use Rattle.tw_replica.specs.Replica.{held_state, is_replica_closed, OpeningRefused}
use Rattle.tw_replica.specs.declared.replica.Replica.{Replica}
use Rattle.tw_outcome.specs.Start.{IsNewReplica}
use Rattle.tw_sync.specs.Start.{Begins, AsksSnapshot}
use Rattle.tw_sync.specs.Start.Start.{Base}
use Rattle.tw_sync.specs.Contract.{EndsSomehow, GetsNoReply, Runs}
use Rattle.tw_sync.proofs.Beginnings.{may_start, runs_ask, runs_sound_last, offers_kept, offers_mine, offers_grow}
use Rattle.tw_sync.proofs.Hearing.{kept_same, kept_on}
use Rattle.tw_sync.proofs.HonestAnswers.{still_honest}
use Rattle.tw_sync.proofs.Served.{grows_same, grows_on}
use Rattle.tw_sync.specs.Sync.{server_chain}
use Rattle.tw_sync.specs.declared.report.SyncReport.{SyncReport}
use Rattle.tw_sync.specs.declared.error.SyncError.{SyncError}
use Rattle.tw_cli.specs.Cause.{open_cause, sync_cause}
use Rattle.tw_cli.specs.Crash.{LeavesRecords}
use Rattle.tw_cli.specs.SyncRuns.{SyncRuns}
use Rattle.tw_cli.specs.declared.syncing.SyncFailure.TheVariants as failure
use Rattle.tw_cli.specs.Syncing.{SyncStart, AsksInVain, NewAsks}
use Rattle.tw_settings.specs.declared.server.ServerSettings.{ServerSettings}
use Rattle.tw_cli.specs.declared.cause.Cause.{Cause}
use Rattle.tw_cli.specs.declared.cause.Cause.TheVariants.{Done}
use Rattle.tw_replica.specs.declared.error.OpenError.{OpenError}
use Rattle.tw_cli.proofs.LaterChains.{GoesOn, leads_on}
use Rattle.tw_cli.proofs.Openings.{held_is, opens_to}
use Rattle.tw_cli.proofs.Synced.{leaves_end, leaves_opening, leaves_refused, sync_ends, sync_opening_wants, sync_wants, synced}

module _ {D L : Type 0} (m : DiskModel D) (links : LinkModel L) (server : ServerSettings) where
  -- the replica is not opened
  pub unopened_runs : (d0 d1 : D) (l : L) (e : OpenError) → OpeningRefused m d0 d1 e → LeavesRecords m d0 d1 → SyncRuns m links server d0 d1 l l (Err (failure.Open e))
  unopened_runs d0 d1 l e refused any_moment = (
    record { start = Base; begun = l; state = states.start; begins = inl refl; of = λ tells other opens. inl refl; sound = λ tells given. tt },
    record {
      synced = tt;
      refused = (refused, refl);
      complete = λ can. inl (sync_opening_wants m links server Base d0 d1 l l e refused can);
      any_moment = leaves_opening m links server Base d0 d1 l l (open_cause e) any_moment;
      grows = λ honest. grows_same (links.chain l);
      link_kept = kept_same links l;
    },
    λ tells state opens fresh. inr (inl (e, refl, refl)),
  )

  module _ (d0 mid d1 : D) (r0 r1 : Replica) (l0 l1 : L) (any_moment : LeavesRecords m d0 mid) (opened : Tells m d0 → IsOpenedReplica m d0 mid r0) where
    abbrev starts : (result : Result SyncReport SyncError) → Runs m links server.client server.host r0 r1 mid d1 l0 l1 result → SyncStart m links server d0 l0 l1
    starts result run = record {
      start = run.start;
      begun = run.begun;
      state = held_state r0;
      begins = run.begins;
      of = λ tells other opens. subst (λ s. Begins links server.client server.host s l0 run.begun run.start) (sym (held_is m d0 mid r0 other (opened tells) opens)) run.begins;
      sound = λ tells given. runs_sound_last m links server.client server.host r0 r1 mid d1 l0 l1 result run (given (held_state r0) (opens_to m d0 mid r0 (opened tells)));
    }

    -- it asks for a snapshot first if its replica is new, or it gets no reply
    asks_first : (result : Result SyncReport SyncError) (cause : Cause) → (run : Runs m links server.client server.host r0 r1 mid d1 l0 l1 result) → is_replica_closed r0 ≡ false
        → (GetsNoReply links server.client server.host l0 l1 result → AsksInVain l0 l1 cause) → NewAsks m links server d0 l0 run.begun l1 cause
    asks_first result cause run live vain tells state opens fresh =
        by (runs_ask m links server.client server.host r0 r1 mid d1 l0 l1 result run live (subst IsNewReplica (held_is m d0 mid r0 state (opened tells) opens) fresh))
      where
        by : AsksSnapshot links server.client server.host l0 run.begun (λ reply. Unit {0}) ⊎ GetsNoReply links server.client server.host l0 l1 result
            → AsksSnapshot links server.client server.host l0 run.begun (λ reply. Unit {0}) ⊎ AsksInVain l0 l1 cause
        by (inl asked) = inl asked
        by (inr none) = inr (vain none)

    -- it is done, and then sends its tasks, or not
    module _ (live : is_replica_closed r0 ≡ false) (report : SyncReport) (run : Runs m links server.client server.host r0 r1 mid d1 l0 l1 (Ok report)) where
      abbrev now : L
      now = run.rest.now

      on : IsHonest links run.begun server.client → GoesOn (server_chain links now) (server_chain links l1)
      on honest =
          let there : IsHonest links now server.client = still_honest links run.begun now server.client run.rest.ends.any.link_kept honest in (
            offers_grow links server.client server.host (held_state r1) now l1 (Ok report) run.rest.offers there,
            offers_mine links server.client server.host (held_state r1) now l1 (Ok report) run.rest.offers there,
          )

      done_at : SyncRuns m links server d0 d1 l0 l1 (Ok report)
      done_at = (
        starts (Ok report) run,
        record {
          synced = synced m links server run.start d0 mid d1 r0 r1 run.begun now l1 report (may_start links server.client server.host (held_state r0) l0 run.begun run.start run.begins) any_moment opened on run.rest.ends.done run.rest.offers run.rest.wanted run.rest.unwanted;
          refused = tt;
          complete = tt;
          any_moment = leaves_end m links server run.start d0 mid d1 r0 run.begun l1 any_moment opened
              (λ bodies at. leads_on m run.start mid d1 (held_state r0) (IsHonest links run.begun server.client) (server_chain links run.begun) (server_chain links now) (server_chain links l1) on (run.rest.ends.any.any_moment bodies at));
          grows = λ honest. grows_on (links.chain run.begun) (links.chain now) (links.chain l1) (run.rest.ends.any.grows honest) (on honest).0;
          link_kept = kept_on links run.begun now l1 run.rest.ends.any.link_kept (offers_kept links server.client server.host (held_state r1) now l1 (Ok report) run.rest.offers);
        },
        asks_first (Ok report) Done run live (λ none. absurd none),
      )

    pub done_runs : (host : List ℕ) (report : SyncReport) → is_replica_closed r0 ≡ false → host ≡ server.host → Runs m links server.client host r0 r1 mid d1 l0 l1 (Ok report) → SyncRuns m links server d0 d1 l0 l1 (Ok report)
    done_runs host report live is there = done_at live report (subst (λ h. Runs m links server.client h r0 r1 mid d1 l0 l1 (Ok report)) is there)

    -- it is refused
    pub refused_runs : (host : List ℕ) (e : SyncError) → FaultsRise m d0 mid → is_replica_closed r0 ≡ false → host ≡ server.host → Runs m links server.client host r0 r1 mid d1 l0 l1 (Err e) → SyncRuns m links server d0 d1 l0 l1 (Err (failure.Sync e))
    refused_runs host e kept live is there = by (subst (λ h. Runs m links server.client h r0 r1 mid d1 l0 l1 (Err e)) is there)
      where
        vain : GetsNoReply links server.client server.host l0 l1 (Err e) → AsksInVain l0 l1 (sync_cause e)
        vain (inl link, unheard) = inr (inl (ap sync_cause link))
        vain (inr memory, unheard) = inr (inr (ap sync_cause memory))

        by : Runs m links server.client server.host r0 r1 mid d1 l0 l1 (Err e) → SyncRuns m links server d0 d1 l0 l1 (Err (failure.Sync e))
        by run =
            let ends : EndsSomehow m links server.client server.host run.start r0 r1 mid d1 run.begun l1 (Err e) =
            subst (λ l. EndsSomehow m links server.client server.host run.start r0 r1 mid d1 run.begun l (Err e)) (sym run.rest.offers) run.rest.ends in
            let refused = ends.refused in (
              starts (Err e) run,
              record {
                synced = tt;
                refused = sync_ends m links server run.start d0 mid d1 r0 r1 run.begun l1 any_moment opened kept live e refused.refused refused.ended (λ bodies on stopping. refused.records stopping bodies on)
                    (record { heard = refused.heard; measured = refused.measured; honest = refused.honest; way = refused.way; cancels = refused.cancels });
                complete = λ can. sync_wants m links server run.start server.host d0 mid d1 r0 run.begun l1 e refl opened kept live refused.complete can;
                any_moment = leaves_refused m links server run.start d0 mid d1 r0 run.begun l1 any_moment opened r1 e ends.any.any_moment refused.refused;
                grows = ends.any.grows;
                link_kept = ends.any.link_kept;
              },
              asks_first (Err e) (sync_cause e) run live vain,
            )
