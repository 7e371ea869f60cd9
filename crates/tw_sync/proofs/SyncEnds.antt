-- The ends of a sync of an open replica that has met the chain: the replica is moved, or it is not.
use Rattle.std.proofs.Common.{◌≡◌, ◌^◌, ◌⊎◌, ℕ, inl, inr, Bool, true, false, cond, length, List, [], Option, Some, None, refl, sym, ap, subst, ◌∙◌, arith}
use Rattle.std.proofs.lemmas.Bool.{true≢false}
use Rattle.tw_world.specs.Disk.{DiskModel}
use Rattle.tw_protocol.specs.Chain.{same_id}
use Rattle.tw_protocol.proofs.Chains.{same_id_exact}
use Rattle.tw_path.proofs.Paths.{path_stands_beside}
use Rattle.tw_snapshot.specs.Snapshot.{text_within}
use Rattle.tw_sync.specs.Ends.Offer.{StoresTasks, IsWantedLetter, IsLetterFor, MayBeSent, HasLetter}
use Rattle.tw_model.specs.Ops.{TasksValue, apply_all}
use Rattle.tw_model.specs.LocalOps.{plain}
use Rattle.tw_journal.specs.Journal.{is_closed}
use Rattle.tw_journal.specs.declared.error.AppendError.TheVariants as journal
use Rattle.tw_http.specs.Link.{LinkModel, IsHonest, IsChainOf}
use Rattle.tw_bodies.specs.Body.{Step}
use Rattle.tw_state.specs.Core.{state_of}
use Rattle.tw_state.specs.Sound.{IsSound}
use Rattle.tw_state.specs.State.{State, misfit_synced}
use Rattle.tw_replica.specs.Replica.{GrowsBy}
use Rattle.tw_replica.specs.declared.replica.Replica.{Replica}
use Rattle.tw_replica.specs.declared.error.RecordError.{RecordError}
use Rattle.tw_replica.proofs.HeldSound.{held_sound}
use Rattle.tw_path.specs.Path.{Reached, Leg, added_of}
use Rattle.tw_path.specs.Walk.{StandsAt}
use Rattle.tw_path.proofs.Sending.{sent_is_not_sent_again}
use Rattle.tw_outcome.specs.Agreement.{Agrees}
use Rattle.tw_outcome.specs.End.{starts_at, ends_at, Went}
use Rattle.tw_outcome.specs.End.Answer.{Done}
use Rattle.tw_outcome.proofs.Ends.{start_stands_beside, carried_fits, end_agrees}
use Rattle.tw_sync.specs.Start.{Start, from_state, MayStart, LeadsTo}
use Rattle.tw_sync.specs.Ends.End.{counts_of, EndFrom, SyncEnd}
use Rattle.tw_sync.specs.Ends.Refused.{EndedBy, IsLastReply}
use Rattle.tw_sync.specs.Sync.{server_chain, IsEndStep}
use Rattle.tw_sync.specs.Ends.Causes.{of_record}
use Rattle.tw_sync.specs.Way.{WentOn}
use Rattle.tw_sync.specs.Ends.Honest.{HonestRefused, IsLongRecord, RestsOnTold}
use Rattle.tw_sync.specs.declared.error.SyncError.TheVariants as errors
use Rattle.tw_sync.specs.Way.Cursor.{place, IsOnPath, IsAtStart, made_report}
use Rattle.tw_sync.specs.Way.Progress.{IsMet, IsAtEnd, Meets}
use Rattle.tw_sync.specs.Ends.Moved.{done_by, IsDoneStep, row_size, moved_by, MovesBy, IsNotMoved, LeavesMove}
use Rattle.tw_sync.specs.Contract.{KeepsAgreement, AnyEnd, DoneEnd, RefusedEnd}
use Rattle.tw_sync.specs.declared.cursor.Cursor.{Cursor}
use Rattle.tw_sync.proofs.CursorInChain.{added_away}
use Rattle.tw_sync.proofs.Folds.{agrees_is_kept}
use Rattle.tw_sync.proofs.Hearing.{hears_until}
use Rattle.tw_sync.proofs.Complete.{can_sync}
use Rattle.tw_sync.proofs.CursorAtStart.{starts}
use Rattle.tw_sync.proofs.ExpectedReplies.{goes_on_so_far}
use Rattle.tw_sync.proofs.SentAndAsked.{never_again, few_with_untold}
use Rattle.tw_sync.proofs.LeftIsSent.{few_at_end, at_end_holds, went_to_end}
use Rattle.tw_sync.proofs.PullRefused.{went_on}
use Rattle.tw_sync.proofs.ToldBefore.{tells_all, unwritten_passes}
use Rattle.tw_sync.proofs.ReplicaMoved.{from_sound, from_pending, leads_to, starts_soundly, done_state, pushed_is, dropped_is, state_is, moved_is_sync}
use Rattle.tw_sync.proofs.ReplicaMoved.{end_in, moved_to, done_end, records_are}
use Rattle.tw_sync.proofs.NotMoved.{answers_unwritten, never_stopping, unmoved_refused, unmoved_honest, unmoved_rests, unmoved_told, unmoved_state}
use Rattle.tw_sync.proofs.NotMoved.{unmoved_cause, unmoved_measured}
use Rattle.tw_sync.proofs.Served.{grows_same}

-- it is met
module _ {L : Type 0} (m : LinkModel L) (client host : List ℕ) (hand : TasksValue) (start : Start) (old : Replica) (may : MayStart start (state_of old.core))
    (first now : L) (begun cursor : Cursor) (whole : IsChainOf m first) (hand_is : (from_state start (state_of old.core)).tasks ≡ hand)
    (at_start : IsAtStart (from_state start (state_of old.core)) begun) (meets : Meets m client host hand first begun now cursor) where
  abbrev old_state : State
  old_state = state_of old.core

  abbrev state : State
  state = from_state start old_state

  met : IsMet m client host state first now cursor
  met = meets state first hand_is (starts m client host state first begun whole at_start)

  sound : IsSound state
  sound = from_sound start old_state (held_sound old)

  abbrev legs : List Leg
  legs = met.pulled.legs

  abbrev path : IsOnPath state legs cursor
  path = met.pulled.on_path

  abbrev r : Reached
  r = place state legs

  abbrev s : State
  s = done_state old_state r

  abbrev come : (honest : IsHonest m first client) → IsAtEnd m client state first now legs cursor
  come honest = met.pulled.come honest

  abbrev step : Step
  step = done_by start old_state r

  abbrev end : IsEndStep start old_state s step
  end = done_end old_state (held_sound old) start legs may path.path met.nothing

  -- what is carried fits
  pub end_fits : misfit_synced 0 state.tasks cursor.walker.carried ≡ None
  end_fits = ap (misfit_synced 0 state.tasks) path.stands.carried ∙ carried_fits state legs sound path.path

  leads : LeadsTo start r
  leads = leads_to start old_state legs may path.path

  went : IsHonest m first client → Went (starts_at state) (server_chain m first) (server_chain m now) legs
  went honest = went_to_end m client state first now now legs cursor path (come honest) (grows_same (m.chain now)) refl

  ends_done : (next : State) → next ≡ ends_at old_state r → (honest : IsHonest m first client) → SyncEnd start old_state next (server_chain m first) (server_chain m now) (made_report cursor)
  ends_done next is honest = (
    (come honest).on.grows,
    record {
      legs = legs;
      went = went honest;
      nothing = met.nothing;
      last = at_end_holds m client state first now legs cursor (come honest);
      state = is;
      pulled = path.versions;
      pushed = pushed_is state legs cursor path;
      dropped = dropped_is state legs cursor path ∙ ap (λ ops. length (plain ops)) (from_pending start old_state may);
      base = path.stands.at;
    },
  )

  module _ {D : Type 0} (d : DiskModel D) (new : Replica) (before after : D) (live : is_closed old.journal ≡ false)
      (leaves_at : (r : Reached) → StandsAt state.tasks r cursor.walker → LeadsTo start r → LeavesMove d old before after r.at (done_by start old_state r)) (grown : GrowsBy d old before after (2 ^ 30)) where
    leaves : LeavesMove d old before after r.at step
    leaves = leaves_at r path.stands leads

    any_end : KeepsAgreement m client start old new first now → AnyEnd d m client start old new before after first now
    any_end agrees = record {
      agrees = agrees;
      grows = λ honest. (come honest).on.grows;
      any_moment = λ bodies on. record {
        next = moved_by r.at step old_state;
        made = moved_is_sync start old_state s r.at step end;
        end = λ honest. end_in start old_state s r.at step end (server_chain m first) (server_chain m now) (Done (counts_of (made_report cursor))) (λ next is. ends_done next is honest);
        leaves = leaves bodies on;
      };
      growth = grown;
      link_kept = met.pulled.asked.kept;
    }

    -- the record is not written
    module _ (e : RecordError) (not_at : (r : Reached) → StandsAt state.tasks r cursor.walker → LeadsTo start r → IsNotMoved d old new before after r.at (done_by start old_state r) e) where
      un : IsNotMoved d old new before after r.at step e
      un = not_at r path.stands leads

      same : state_of new.core ≡ old_state
      same = unmoved_state d m client old new before after first now start r.at step live e un

      pub unmoved_any : AnyEnd d m client start old new before after first now
      unmoved_any = any_end (λ honest a fold. subst (λ t. Agrees t (m.chain now)) (sym same) (agrees_is_kept old_state (m.chain first) (m.chain now) a (come honest).on.grows))

      long : IsHonest m first client → (bytes : ℕ) → bytes ≡ row_size step → IsLongRecord start old_state (server_chain m first) (server_chain m now) bytes
      long honest bytes len = record { legs = legs; path = path.path; between = (come honest).lies; len = inl (at_end_holds m client state first now legs cursor (come honest), len) }

      says : IsHonest m first client → HonestRefused start old_state (server_chain m first) (server_chain m now) (of_record e)
      says honest = unmoved_honest d m client old new before after first now start r.at step live (long honest) e un

      was_told : IsHonest m first client → RestsOnTold m client host start old_state first now (of_record e)
      unfolding long met
      was_told honest = unmoved_told d m client old new before after first now start r.at step live host
          (λ bytes len. (long honest bytes len, λ tells. (let t = met.pulled.asked.heard tells in (t.hs, t.hears, (bytes, tells_all legs (errors.Journal (journal.TooLong bytes)) t.hs (inl refl) t.told))))) e un

      on : IsHonest m first client → WentOn state (server_chain m first) (server_chain m now) legs (of_record e)
      on honest = went_on state (server_chain m first) (server_chain m now) legs (of_record e) (went honest)

      pub unmoved_end : RefusedEnd d m client host start old new before after first now (of_record e)
      unmoved_end =
          let refused = unmoved_refused d m client old new before after first now start r.at step live e un in
          record {
            ended = λ honest. subst (λ a. EndFrom a start old_state (state_of new.core) (server_chain m first) (server_chain m now)) (sym (answers_unwritten e)) ((come honest).on.grows, record { legs = legs; went = went honest; state = same });
            records = λ so. absurd (never_stopping e so);
            way = record {
              legs = legs;
              path = path.path;
              heard = λ tells. (let t = met.pulled.asked.heard tells in (t.hs, hears_until m client host first now t.hs (of_record e) t.hears, tells_all legs (of_record e) t.hs (unwritten_passes e) t.told));
              went = on;
              state = λ so. absurd (never_stopping e so);
            };
            cancels = λ honest mine later w was. (legs, went honest, never_again state (server_chain m first) (server_chain m now) legs mine later w sound (come honest).on.whole (come honest).on.grows (went honest) was);
            refused = refused;
            honest = says;
            complete = λ can. can_sync d m old new before after first now client host start (of_record e) can refused (says can.honest) (unmoved_rests d m client old new before after first now start r.at step live host e) (was_told can.honest);
            heard = λ tells. (
                let t = met.pulled.asked.heard tells in (
                  t.hs,
                  hears_until m client host first now t.hs (of_record e) t.hears,
                  unmoved_cause d m client old new before after first now start r.at step live t.hs e (inl (goes_on_so_far m client host first now legs cursor _ t met.pulled.tries)),
                  λ honest. few_with_untold m state first now legs (of_record e) _ (on honest)
                      (let n = few_at_end (m.exchanges first) (m.exchanges now) cursor.versions (length (added_of legs)) cursor.conflicts met.pulled.asked.count (come honest).late met.pulled.tries in let b = t.brought_is in omega (arith, n, b)),
                ));
            measured = λ tells. (
                let t = met.pulled.asked.heard tells in (
                  t.hs,
                  hears_until m client host first now t.hs (of_record e) t.hears,
                  unmoved_measured d m client old new before after first now start r.at step live t.hs
                      (λ bytes len. inl (record { legs = legs; heard = record { path = path.path; told = t.told; ended = t.so }; len = len })) e un,
                ));
          }

    -- it is written
    module _ (moves_at : (r : Reached) → StandsAt state.tasks r cursor.walker → LeadsTo start r → MovesBy d old new before after r.at (done_by start old_state r)) where
      moves : MovesBy d old new before after r.at step
      moves = moves_at r path.stands leads

      new_is : state_of new.core ≡ ends_at old_state r
      new_is = state_is start old_state s r.at step end (state_of new.core) (moved_to d old new before after r.at step moves)

      pub moved_any : AnyEnd d m client start old new before after first now
      moved_any = any_end (λ honest a fold.
          end_agrees (Done (counts_of (made_report cursor))) old_state (starts_at state) (state_of new.core) (server_chain m first) (server_chain m now) (come honest).on.whole a (starts_soundly start old_state (m.chain now) may fold) (ends_done (state_of new.core) new_is honest))

      pub moved_end : DoneEnd d m client host start old new before after first now (made_report cursor)
      moved_end = record {
        ended = ends_done (state_of new.core) new_is;
        cancels = λ honest mine later w was. (
            let c = come honest in (
              legs,
              went honest,
              pushed_is state legs cursor path,
              sent_is_not_sent_again (m.chain first) (m.chain now) (starts_at state) legs mine later w c.on.whole c.on.grows (start_stands_beside state sound).fits path.path c.lies c.behind (at_end_holds m client state first now legs cursor c) was,
            ));
        records = λ bodies on. records_are d old new before after start s r.at step end refl moves IsDoneStep (met.nothing, refl) (IsHonest m first client) (m.chain now) (λ honest. inr (come honest).lies) bodies on (leaves bodies on);
        way = record {
          legs = legs;
          path = path.path;
          heard = λ tells. (let t = met.pulled.asked.heard tells in (t.hs, t.hears, t.told));
          went = went;
          nothing = met.nothing;
          state = new_is;
          reported = record {
            pulled = path.versions;
            pushed = pushed_is state legs cursor path;
            dropped = dropped_is state legs cursor path ∙ ap (λ ops. length (plain ops)) (from_pending start old_state may);
            base = path.stands.at;
          };
        };
        heard = λ tells. (
            let t = met.pulled.asked.heard tells in (
              t.hs,
              t.hears,
              record {
                ended = subst (λ (x : List ℕ). EndedBy t.hs (IsLastReply client x)) (sym path.stands.at) t.so;
                brought_is = t.brought_is;
                read = (t.ops, t.reads);
                goes_on = goes_on_so_far m client host first now legs cursor _ t met.pulled.tries;
              },
            ));
        exchanges = λ honest. (added_of legs, (come honest).mine, few_at_end (m.exchanges first) (m.exchanges now) cursor.versions (length (added_of legs)) cursor.conflicts met.pulled.asked.count (come honest).late met.pulled.tries);
      }

      -- a request that stores the tasks there stores those of the replica
      letter_for : (letter : Option (List ℕ)) → IsWantedLetter client host cursor.wanted old_state.base r letter → IsLetterFor client host (state_of new.core) letter
      letter_for None is = tt
      letter_for (Some text) (inl none) = absurd cc
      letter_for (Some text) (inr (wanted, far, stores)) = subst (λ (t : State). (t.pending ≡ []) × StoresTasks client host t.base t.tasks text) (sym (new_is ∙ ap (λ (b : Bool). cond b old_state s) far)) (refl, stores)

      -- there is one if it is wanted
      letter_there : (letter : Option (List ℕ)) → IsWantedLetter client host cursor.wanted old_state.base r letter → cursor.wanted ≡ true → MayBeSent (IsHonest m first client) old_state (state_of new.core) → ¬ (letter ≡ None)
      letter_there (Some text) is wanted sendable = λ none. absurd cc
      letter_there None (inl (none, inl calm)) wanted sendable = absurd (true≢false (sym wanted ∙ calm))
      letter_there None (inl (none, inr here)) wanted sendable = absurd (by sendable.moved)
        where
          by : IsHonest m first client ⊎ ¬ (new.core.base ≡ old_state.base) → ⊥
          by (inl honest) = added_away start old_state (m.chain now) legs may (come honest).on.whole (come honest).lies (path.wants wanted) (same_id_exact r.at old_state.base here)
          by (inr moved) = moved (ap (λ (t : State). t.base) (new_is ∙ ap (λ (b : Bool). cond b old_state s) here))
      letter_there None (inr (asked, far, long)) wanted sendable = absurd (too_long (sym long ∙ ap (λ (t : State). text_within t.tasks) (sym (new_is ∙ ap (λ (b : Bool). cond b old_state s) far)) ∙ sendable.within))
        where
          too_long : {text : List ℕ} → ◌≡◌ {A = Option (List ℕ)} None (Some text) → ⊥
          too_long e = cc

      -- there is none if none is wanted
      letter_not_there : (letter : Option (List ℕ)) → IsWantedLetter client host cursor.wanted old_state.base r letter → cursor.wanted ≡ false → letter ≡ None
      letter_not_there letter (inl (none, why)) calm = none
      letter_not_there letter (inr (wanted, far, stores)) calm = absurd (true≢false (sym wanted ∙ calm))

      pub letter_end : (base : List ℕ) → base ≡ old_state.base → (letter : Option (List ℕ)) → ((r : Reached) → StandsAt hand r cursor.walker → r.tasks ≡ apply_all hand r.carried → IsWantedLetter client host cursor.wanted base r letter)
          → HasLetter m client host old_state (state_of new.core) first now letter
      letter_end base base_is letter stores =
          let beside = path_stands_beside state.tasks (starts_at state) legs (start_stands_beside state sound) path.path in
          let there : r.tasks ≡ apply_all state.tasks r.carried = sym (beside.same ∙ ap (apply_all r.tasks) met.nothing) in
          let is = subst (λ (b : List ℕ). IsWantedLetter client host cursor.wanted b r letter) base_is
          (stores r (subst (λ (t : TasksValue). StandsAt t r cursor.walker) hand_is path.stands) (subst (λ (t : TasksValue). r.tasks ≡ apply_all t r.carried) hand_is there)) in
          record {
            letter_is = letter_for letter is;
            wanted = λ tells. (let t = met.pulled.asked.heard tells in (t.hs, t.hears, λ wanted may. letter_there letter is (sym t.wanted_is ∙ wanted) may));
            unwanted = λ tells. (let t = met.pulled.asked.heard tells in (t.hs, t.hears, λ calm. letter_not_there letter is (sym t.wanted_is ∙ calm)));
          }
