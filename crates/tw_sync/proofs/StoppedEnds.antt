-- The ends of a sync of an open replica: the chain is not met, and the replica is moved to where the sync was stopped, or it is not.
use Rattle.std.proofs.Common.{◌≡◌, ◌^◌, ◌⊎◌, ℕ, inl, inr, true, false, List, ◌++◌, None, refl, sym, ap, subst, ◌∙◌}
use Rattle.tw_world.specs.Disk.{DiskModel, LeavesOnly}
use Rattle.tw_model.specs.Ops.{TasksValue, apply_all}
use Rattle.tw_journal.specs.Journal.{is_closed}
use Rattle.tw_journal.specs.declared.error.AppendError.TheVariants as journal
use Rattle.tw_http.specs.Link.{LinkModel, IsHonest, IsChainOf}
use Rattle.tw_bodies.specs.Body.{Step}
use Rattle.tw_state.specs.Core.{state_of}
use Rattle.tw_state.specs.Sound.{IsSound}
use Rattle.tw_state.specs.State.{State, misfit_synced, may_pend}
use Rattle.tw_replica.specs.Replica.{IsReplicaOn, OpensToEither, GrowsBy}
use Rattle.tw_replica.specs.declared.replica.Replica.{Replica}
use Rattle.tw_replica.specs.declared.error.RecordError.{RecordError}
use Rattle.tw_replica.specs.declared.error.RecordError.TheVariants as records
use Rattle.tw_replica.proofs.HeldSound.{held_sound}
use Rattle.tw_groups.specs.Groups.{pending_on}
use Rattle.tw_path.specs.Path.{Reached}
use Rattle.tw_path.specs.Walk.{StandsAt}
use Rattle.tw_outcome.specs.Agreement.{Agrees}
use Rattle.tw_outcome.specs.End.{starts_at, stands_at, Went}
use Rattle.tw_outcome.specs.End.Answer.{Stopped, Unwritten}
use Rattle.tw_outcome.proofs.Ends.{first_part, stopped_is_partly, carried_fits, end_agrees}
use Rattle.tw_sync.specs.Ends.End.{EndFrom, IsStopping}
use Rattle.tw_sync.specs.Replies.Heard.{Heard, HearsUntil, brought}
use Rattle.tw_sync.specs.Ends.Refused.{HeardRefused}
use Rattle.tw_sync.specs.Sync.{server_chain, IsEndStep}
use Rattle.tw_sync.specs.Ends.Causes.{of_record}
use Rattle.tw_sync.specs.Way.{TellsOf, WentOn}
use Rattle.tw_sync.specs.Ends.Honest.{HonestRefused, IsLongRecord, RestsOnTold}
use Rattle.tw_sync.specs.Way.Cursor.{place, IsOnPath, LiesIn, IsAtStart}
use Rattle.tw_sync.specs.Way.Progress.{IsCause, HeardToStop, IsStopped, StopsPulling}
use Rattle.tw_sync.specs.Start.{Start, from_state, MayStart, IsKnownStart, LeadsTo}
use Rattle.tw_sync.specs.Ends.Moved.{stopped_by, IsStoppedStep, row_size, moved_by, MovesBy, IsNotMoved, LeavesMove}
use Rattle.tw_sync.specs.Contract.{KeepsAgreement, SendsNothingAgain, LeavesOneEnd, AsksFewFor, AnyEnd, RefusedEnd}
use Rattle.tw_sync.specs.declared.cursor.Cursor.{Cursor}
use Rattle.tw_sync.specs.declared.error.SyncError.{SyncError}
use Rattle.tw_sync.specs.declared.error.SyncError.TheVariants as errors
use Rattle.tw_sync.proofs.Folds.{agrees_is_kept}
use Rattle.tw_sync.proofs.Hearing.{hears_until}
use Rattle.tw_sync.proofs.Complete.{can_sync}
use Rattle.tw_sync.proofs.FromStart.{IsNoJournal, refused_from, measured_from, told_none}
use Rattle.tw_sync.proofs.CursorAtStart.{starts}
use Rattle.tw_sync.proofs.SentAndAsked.{never_again, few_with_untold}
use Rattle.tw_sync.proofs.ReplicaMoved.{from_sound, leads_to, starts_soundly, stopped_state, state_is, moved_is_sync, end_in, moved_to, stopped_end}
use Rattle.tw_sync.proofs.ReplicaMoved.{stays_same, records_are}
use Rattle.tw_sync.proofs.NotMoved.{stopping, stopped_refused, answers_unwritten, never_stopping, unmoved_refused, unmoved_honest, unmoved_rests}
use Rattle.tw_sync.proofs.NotMoved.{unmoved_told, unmoved_state, unmoved_cause, unmoved_measured, unmoved_passes, unmoved_adds, read_all, went_on_until, tells_unwritten, went_unwritten, known_grown, far_from_start}

-- the causes that meeting the chain may have are none of the journal
pub stopped_no_journal : {L : Type 0} (m : LinkModel L) (first now : L) (e : SyncError) → IsCause m first now e → IsNoJournal e
stopped_no_journal m first now (errors.Journal e) c = c
stopped_no_journal m first now errors.Memory c = tt
stopped_no_journal m first now errors.Link c = tt
stopped_no_journal m first now (errors.Reply kind) c = tt
stopped_no_journal m first now (errors.Gone base) c = tt
stopped_no_journal m first now (errors.Busy parent) c = tt
stopped_no_journal m first now (errors.OutOfSync base parent) c = tt
stopped_no_journal m first now (errors.Segment version) c = tt
stopped_no_journal m first now (errors.SegmentTooLong bytes) c = tt
stopped_no_journal m first now (errors.PullTooLong bytes) c = tt

-- the chain is not met
module _ {L : Type 0} (m : LinkModel L) (client host : List ℕ) (hand : TasksValue) (start : Start) (old : Replica) (may : MayStart start (state_of old.core))
    (first now : L) (begun cursor : Cursor) (e : SyncError) (whole : IsChainOf m first) (hand_is : (from_state start (state_of old.core)).tasks ≡ hand)
    (at_start : IsAtStart (from_state start (state_of old.core)) begun) (stops : StopsPulling m client host hand first begun now cursor e) where
  abbrev old_state : State
  old_state = state_of old.core

  abbrev state : State
  state = from_state start old_state

  pub stopped : IsStopped m client host state first now cursor e
  stopped = stops state first hand_is (starts m client host state first begun whole at_start)

  sound : IsSound state
  sound = from_sound start old_state (held_sound old)

  unmet_any : {D : Type 0} (d : DiskModel D) (before after : D) (new : Replica) → KeepsAgreement m client start old new first now → LeavesOneEnd d m client start old before after first now → GrowsBy d old before after (2 ^ 30) → AnyEnd d m client start old new before after first now
  unmet_any d before after new agrees leaves grown = record { agrees = agrees; grows = λ honest. (stopped.come honest).grows; any_moment = leaves; growth = grown; link_kept = stopped.kept }

  same_agrees : (new : Replica) → state_of new.core ≡ state_of old.core → KeepsAgreement m client start old new first now
  same_agrees new same honest a fold = subst (λ t. Agrees t (m.chain now)) (sym same) (agrees_is_kept old_state (m.chain first) (m.chain now) a (stopped.come honest).grows)

  went_far : (honest : IsHonest m first client) → Went (starts_at state) (server_chain m first) (server_chain m now) (stopped.legs ++ (stopped.come honest).went.untold)
  went_far honest = (stopped.come honest).went.went

  kept : (new : Replica) → state_of new.core ≡ state_of old.core → IsHonest m first client → EndFrom Unwritten start old_state (state_of new.core) (server_chain m first) (server_chain m now)
  kept new same honest = ((stopped.come honest).grows, record { legs = stopped.legs ++ (stopped.come honest).went.untold; went = went_far honest; state = same })

  unmet_cancels : SendsNothingAgain m client start old first now
  unmet_cancels honest mine later w was =
      let c = stopped.come honest in
      (stopped.legs ++ c.went.untold, went_far honest, never_again state (server_chain m first) (server_chain m now) (stopped.legs ++ c.went.untold) mine later w sound c.whole c.grows (went_far honest) was)

  few : (honest : IsHonest m first client) (t : HeardToStop m client host state first now stopped.legs e) → AsksFewFor m first now (brought t.hs) 1
  few honest t = few_with_untold m state first now stopped.legs e _ (stopped.come honest).went (t.few honest)

  -- for want of memory: the replica is as it was
  module _ {D : Type 0} (d : DiskModel D) (disk : D) where
    pub forgotten_any : ((bodies : List (List ℕ)) → IsReplicaOn d old disk bodies → LeavesOnly d disk disk (OpensToEither (state_of old.core) None)) → GrowsBy d old disk disk (2 ^ 30) → AnyEnd d m client start old old disk disk first now
    forgotten_any leaves grown = unmet_any d disk disk old (same_agrees old refl) (λ bodies on. record { next = None; made = tt; end = λ h. tt; leaves = leaves bodies on }) grown

    pub forgotten_refused : e ≡ errors.Memory → is_closed old.journal ≡ false → RefusedEnd d m client host start old old disk disk first now errors.Memory
    forgotten_refused is live = record {
      ended = kept old refl;
      records = λ s. absurd (never_stopping records.Memory s);
      way = record {
        legs = stopped.legs;
        path = stopped.path;
        heard = λ tells. (let t = stopped.heard tells in (t.hs, subst (HearsUntil m client host first now t.hs) is t.hears, subst (λ x. TellsOf stopped.legs x t.hs) is t.tells));
        went = λ honest. subst (WentOn state (server_chain m first) (server_chain m now) stopped.legs) is (stopped.come honest).went;
        state = λ s. absurd (never_stopping records.Memory s);
      };
      cancels = unmet_cancels;
      refused = record { same = record { state = refl; journal = refl; disk = refl }; is_open = live };
      honest = λ honest. tt;
      complete = λ can. inl refl;
      heard = λ tells. (
          let t = stopped.heard tells in
          (t.hs, subst (HearsUntil m client host first now t.hs) is t.hears, subst (HeardRefused client t.hs) is t.refused, λ honest. few honest t));
      measured = λ tells. (let t = stopped.heard tells in (t.hs, subst (HearsUntil m client host first now t.hs) is t.hears, tt));
    }

  -- for another cause: it is on its path
  module _ (other : ¬ (e ≡ errors.Memory)) where
    abbrev r : Reached
    r = place state stopped.legs

    abbrev s : State
    s = stopped_state old_state r

    abbrev step : Step
    step = stopped_by start old_state r

    on_path : IsOnPath state stopped.legs cursor
    on_path = by stopped.stands
      where
        by : (e ≡ errors.Memory) ⊎ IsOnPath state stopped.legs cursor → IsOnPath state stopped.legs cursor
        by (inl is) = absurd (other is)
        by (inr on) = on

    abbrev end : IsEndStep start old_state s step
    end = stopped_end old_state (held_sound old) start stopped.legs may stopped.path

    leads : LeadsTo start r
    leads = leads_to start old_state stopped.legs may stopped.path

    -- what is carried fits, and what is left may be pending then
    pub stop_fits : misfit_synced 0 state.tasks cursor.walker.carried ≡ None
    stop_fits = ap (misfit_synced 0 state.tasks) on_path.stands.carried ∙ carried_fits state stopped.legs sound stopped.path

    pub stop_pends : (hand : TasksValue) × (r : Reached) × StandsAt hand r cursor.walker × (may_pend (apply_all state.tasks r.carried) (pending_on r.tasks r.left) ≡ true)
    stop_pends = (state.tasks, r, on_path.stands, (stopped_is_partly state stopped.legs sound stopped.path).0)

    ends_stopped : (next : State) → next ≡ stands_at old_state r → (honest : IsHonest m first client) → EndFrom Stopped start old_state next (server_chain m first) (server_chain m now)
    ends_stopped next is honest =
        let c = stopped.come honest in
        (c.grows, record { legs = stopped.legs; untold = c.went.untold; few = c.went.few; went = went_far honest; state = is })

    lies : IsHonest m first client → LiesIn state (m.chain now) stopped.legs
    lies honest = first_part (starts_at state) (m.chain now) stopped.legs (stopped.come honest).went.untold (went_far honest).between

    module _ {D : Type 0} (d : DiskModel D) (new : Replica) (before after : D) (live : is_closed old.journal ≡ false)
        (leaves_at : (r : Reached) → StandsAt state.tasks r cursor.walker → LeadsTo start r → LeavesMove d old before after r.at (stopped_by start old_state r)) (grown : GrowsBy d old before after (2 ^ 30)) where
      leaves : LeavesMove d old before after r.at step
      leaves = leaves_at r on_path.stands leads

      one_end : LeavesOneEnd d m client start old before after first now
      one_end bodies on = record {
        next = moved_by r.at step old_state;
        made = moved_is_sync start old_state s r.at step end;
        end = λ honest. end_in start old_state s r.at step end (server_chain m first) (server_chain m now) Stopped (λ next is. ends_stopped next is honest);
        leaves = leaves bodies on;
      }

      -- the record is written
      module _ (moves_at : (r : Reached) → StandsAt state.tasks r cursor.walker → LeadsTo start r → MovesBy d old new before after r.at (stopped_by start old_state r)) where
        moves : MovesBy d old new before after r.at step
        moves = moves_at r on_path.stands leads

        new_is : state_of new.core ≡ stands_at old_state r
        new_is = state_is start old_state s r.at step end (state_of new.core) (moved_to d old new before after r.at step moves)

        pub stopped_any : AnyEnd d m client start old new before after first now
        stopped_any = unmet_any d before after new
            (λ honest a fold. end_agrees Stopped old_state (starts_at state) (state_of new.core) (server_chain m first) (server_chain m now) (stopped.come honest).whole a (starts_soundly start old_state (m.chain now) may fold) (ends_stopped (state_of new.core) new_is honest)) one_end grown

        truly : IsHonest m first client → HonestRefused start old_state (server_chain m first) (server_chain m now) e
        truly honest = refused_from start old_state (server_chain m first) (server_chain m now) e (stopped_no_journal m first now e stopped.cause) (stopped.come honest).refused

        pub stopped_end_is : RefusedEnd d m client host start old new before after first now e
        stopped_end_is =
            let is : IsStopping e = stopping m first now e stopped.cause other in
            let refused = stopped_refused d m old new before after first now e live stopped.cause other (stays_same d old new before after start s r.at step end refl moves) in
            record {
              ended = λ honest. subst (λ a. EndFrom a start old_state (state_of new.core) (server_chain m first) (server_chain m now)) (sym is) (ends_stopped (state_of new.core) new_is honest);
              records = λ so bodies on. records_are d old new before after start s r.at step end refl moves IsStoppedStep refl (IsHonest m first client) (m.chain now) lies bodies on (leaves bodies on);
              way = record {
                legs = stopped.legs;
                path = stopped.path;
                heard = λ tells. (let t = stopped.heard tells in (t.hs, t.hears, t.tells));
                went = λ honest. (stopped.come honest).went;
                state = λ so. new_is;
              };
              cancels = unmet_cancels;
              refused = refused;
              honest = λ honest. truly honest;
              complete = λ can. can_sync d m old new before after first now client host start e can refused (truly can.honest) (stopped.come can.honest).pulled (told_none m client host start old_state first now e (stopped_no_journal m first now e stopped.cause));
              heard = λ tells. (let t = stopped.heard tells in (t.hs, t.hears, t.refused, λ honest. few honest t));
              measured = λ tells. (let t = stopped.heard tells in (t.hs, t.hears, measured_from start old_state client t.hs e (stopped_no_journal m first now e stopped.cause) t.measured));
            }

      -- it is not
      module _ (x : RecordError) (known : IsHonest m first client → IsKnownStart start (m.chain first)) (not_at : (r : Reached) → StandsAt state.tasks r cursor.walker → LeadsTo start r → IsNotMoved d old new before after r.at (stopped_by start old_state r) x) where
        un : IsNotMoved d old new before after r.at step x
        un = not_at r on_path.stands leads

        same : state_of new.core ≡ old_state
        same = unmoved_state d m client old new before after first now start r.at step live x un

        pub unstopped_any : AnyEnd d m client start old new before after first now
        unstopped_any = unmet_any d before after new (same_agrees new same) one_end grown

        hears : (hs : List Heard) → HearsUntil m client host first now hs e → HearsUntil m client host first now hs (of_record x)
        hears hs heard = hears_until m client host first now hs (of_record x) (read_all m client host first now hs e other heard)

        long : IsHonest m first client → (bytes : ℕ) → bytes ≡ row_size step → IsLongRecord start old_state (server_chain m first) (server_chain m now) bytes
        long honest bytes len = record { legs = stopped.legs; path = stopped.path; between = far_from_start start old_state (m.chain now) stopped.legs un.0 (known_grown start (m.chain first) (m.chain now) (known honest) (stopped.come honest).grows) (lies honest); len = inr len }

        says : IsHonest m first client → HonestRefused start old_state (server_chain m first) (server_chain m now) (of_record x)
        says honest = unmoved_honest d m client old new before after first now start r.at step live (long honest) x un

        was_told : IsHonest m first client → RestsOnTold m client host start old_state first now (of_record x)
        unfolding long stopped
        was_told honest = unmoved_told d m client old new before after first now start r.at step live host
            (λ bytes len. (
              long honest bytes len,
              λ tells. (
                  let t = stopped.heard tells in
                  (t.hs, read_all m client host first now t.hs e other t.hears, (bytes, tells_unwritten stopped.legs e t.hs (records.Journal (journal.TooLong bytes)) (λ last few. few) t.tells))),
            )) x un

        pub unstopped_end : RefusedEnd d m client host start old new before after first now (of_record x)
        unstopped_end =
            let refused = unmoved_refused d m client old new before after first now start r.at step live x un in
            record {
              ended = λ honest. subst (λ a. EndFrom a start old_state (state_of new.core) (server_chain m first) (server_chain m now)) (sym (answers_unwritten x)) (kept new same honest);
              records = λ so. absurd (never_stopping x so);
              way = record {
                legs = stopped.legs;
                path = stopped.path;
                heard = λ tells. (let t = stopped.heard tells in (t.hs, hears t.hs t.hears, tells_unwritten stopped.legs e t.hs x (λ last few. unmoved_passes d m client old new before after first now start r.at step live last few x un) t.tells));
                went = λ honest. went_unwritten state (server_chain m first) (server_chain m now) stopped.legs e x (unmoved_adds d m client old new before after first now start r.at step live x un) (stopped.come honest).went;
                state = λ so. absurd (never_stopping x so);
              };
              cancels = unmet_cancels;
              refused = refused;
              honest = says;
              complete = λ can. can_sync d m old new before after first now client host start (of_record x) can refused (says can.honest) (unmoved_rests d m client old new before after first now start r.at step live host x) (was_told can.honest);
              heard = λ tells. (
                  let t = stopped.heard tells in
                  (t.hs, hears t.hs t.hears, unmoved_cause d m client old new before after first now start r.at step live t.hs x (went_on_until t.hs e t.refused.until), λ honest. few honest t));
              measured = λ tells. (
                  let t = stopped.heard tells in (
                    t.hs,
                    hears t.hs t.hears,
                    unmoved_measured d m client old new before after first now start r.at step live t.hs
                        (λ bytes len. inr (record { legs = stopped.legs; path = stopped.path; tells = tells_unwritten stopped.legs e t.hs (records.Journal (journal.TooLong bytes)) (λ last few. few) t.tells; len = len })) x un,
                  ));
            }
