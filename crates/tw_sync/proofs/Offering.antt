-- A snapshot that is sent.
use Rattle.std.proofs.Common.{◌≡◌, ◌⊎◌, ℕ, ◌+◌, ◌≤◌, inl, inr, Bool, true, false, cond, List, [], ◌∷◌, ◌++◌, length, drop, Option, Some, None, IfSome, Result, Ok, Err, IsTrue, refl, sym, ap, subst, ◌∙◌, arith}
use Rattle.std.specs.Prelude.{nat_le, option_map}
use Rattle.std.proofs.lemmas.Bool.{leb-true}
use Rattle.std.proofs.lemmas.List.{append-nil, drop_at}
use Rattle.tw_model.specs.Ops.{TasksValue}
use Rattle.tw_protocol.specs.Chain.{Version, Grows, same_id}
use Rattle.tw_protocol.specs.Snapshots.{Account, Reply, Stored, Refused, is_welcome}
use Rattle.tw_http.specs.Link.{LinkModel, IsHonest, IsChainOf, Serves, MayServe, IsExchange, IsAnswered, IsHonestStep, listed}
use Rattle.tw_http.specs.Requests.{IsRequestAnswer}
use Rattle.tw_http.specs.Messages.{max_body, request_text}
use Rattle.tw_snapshot.specs.Snapshot.{max_len, snapshot_text, text_within, snapshot_of}
use Rattle.tw_world.specs.Disk.{DiskModel}
use Rattle.tw_state.specs.Core.{state_of}
use Rattle.tw_replica.specs.declared.replica.Replica.{Replica}
use Rattle.tw_state.specs.State.{State}
use Rattle.tw_sync.specs.Start.{AsksSnapshot, AsksFirst}
use Rattle.tw_sync.specs.Contract.{AsksInVain, Runs, RunsOpen}
use Rattle.tw_sync.specs.declared.offer.Done.{Done}
use Rattle.tw_sync.specs.declared.report.SyncReport.{SyncReport}
use Rattle.tw_sync.specs.declared.error.SyncError.{SyncError}
use Rattle.tw_http.specs.declared.link.LinkError.{LinkError}
use Rattle.tw_http.specs.declared.message.Request.TheVariants as asks
use Rattle.tw_sync.specs.Replies.Answers.{IsLinkKept}
use Rattle.tw_sync.specs.Ends.Offer.{IsLetter, StoresTasks, OffersOne, OffersState}
use Rattle.tw_sync.proofs.Served.{serves_grows, may_serve_grows}
use Rattle.tw_sync.proofs.HonestAnswers.{grown}

-- storing a snapshot adds nothing to the chain
same_chain : (t : Bool) (account other : Account) → account.chain ≡ other.chain → (cond {A = Account × Reply} t (account, Stored) (other, Refused)).0.chain ≡ other.chain
same_chain true account other same = same
same_chain false account other same = refl

none_more : (chain : List Version) → drop (length chain) chain ≡ []
none_more chain = ap (drop (length chain)) (sym (append-nil chain)) ∙ drop_at chain [] (length chain) refl

module _ {L : Type 0} (m : LinkModel L) (client : List ℕ) (now last : L) (text reply : List ℕ) (result : Result (Unit {0}) LinkError) (exchanged : IsExchange m now last text reply result) (answered : IsAnswered m now last text reply result)
    (whole : IsChainOf m last) (letter : IsLetter client text) where
  kept : IsLinkKept m now last
  kept = record { faults = exchanged.faults; tells_list = exchanged.tells_list; tells_chain = exchanged.tells_chain; client = exchanged.client; honest = exchanged.honest }

  abbrev MayStore : Type 0
  MayStore = MayServe (m.chain now) (m.chain last) (m.own now) (m.own last) (asks.AddSnapshot client letter.0 letter.1)

  may : (r : Result (Unit {0}) LinkError) → IsHonestStep m now last reply r (asks.AddSnapshot client letter.0 letter.1) → MayStore
  may (Ok u) s = inr (reply, s)
  may (Err e) s = s

  may_store : IsHonest m now client → MayStore
  may_store honest = may result (answered.served (asks.AddSnapshot client letter.0 letter.1) honest letter.2)

  stored_mine : MayStore → m.own last ≡ m.own now
  stored_mine (inl others) = others.mine
  stored_mine (inr (r, s)) =
      let stays = same_chain (is_welcome s.at letter.0) (record { chain = s.at.chain; stored = Some (record { version = letter.0; bytes = letter.1 }) }) s.at refl in
      s.mine ∙ ap (λ vs. m.own now ++ vs) (ap (drop (length s.at.chain)) stays ∙ none_more s.at.chain) ∙ append-nil (m.own now)

  listed_so : (r : Result (Unit {0}) LinkError) → m.list last ≡ listed (m.list now) text reply r → (m.list last ≡ m.list now) ⊎ ((reply : List ℕ) × (m.list last ≡ m.list now ++ record { request = text; reply = reply } ∷ []))
  listed_so (Ok u) is = inr (reply, is)
  listed_so (Err e) is = inl is

  pub offered : OffersOne m client now last text
  offered = record {
    kept = kept;
    count = exchanged.count;
    on = λ honest. grown m now last client kept honest whole (may_serve_grows (m.chain now) (m.chain last) (m.own now) (m.own last) (asks.AddSnapshot client letter.0 letter.1) (may_store honest));
    mine = λ honest. stored_mine (may_store honest);
    listed = λ tells. listed_so result (exchanged.list tells);
  }

-- ---- the request

some_is : (a b : List ℕ) → ◌≡◌ {A = Option (List ℕ)} (Some a) (Some b) → a ≡ b
some_is a b e = cc

module _ (client host version : List ℕ) (tasks : TasksValue) (text bytes letter : List ℕ) (bytes_are : bytes ≡ text) (is : letter ≡ request_text (asks.AddSnapshot client version bytes) host)
    (back : (more : List ℕ) → length bytes ≤ max_body → IsRequestAnswer (letter ++ more) (Ok (asks.AddSnapshot client version bytes))) where
  stores_by : snapshot_of text ≡ Some tasks → (b : Bool) → nat_le (length (snapshot_text tasks)) max_len ≡ b → Some text ≡ cond b (Some (snapshot_text tasks)) None → Some text ≡ text_within tasks → StoresTasks client host version tasks letter
  stores_by means false is_long e within = absurd cc
  stores_by means true short e within =
      let same : bytes ≡ snapshot_text tasks = bytes_are ∙ some_is text (snapshot_text tasks) e in
      let le : length bytes ≤ max_body = subst (λ (bs : List ℕ). length bs ≤ max_body) (sym same) (leb-true (length (snapshot_text tasks)) max_len short) in
      record {
        within = sym within ∙ e;
        back = ap snapshot_of (sym (some_is text (snapshot_text tasks) e)) ∙ means;
        is = is ∙ ap (λ bs. request_text (asks.AddSnapshot client version bs) host) same;
        read = subst (λ (bs : List ℕ). IsRequestAnswer letter (Ok (asks.AddSnapshot client version bs))) same
            (subst (λ (l : List ℕ). IsRequestAnswer l (Ok (asks.AddSnapshot client version bytes))) (append-nil letter) (back [] le));
      }

  pub stores_tasks : Some text ≡ text_within tasks → snapshot_of text ≡ Some tasks → StoresTasks client host version tasks letter
  stores_tasks within means = stores_by means (nat_le (length (snapshot_text tasks)) max_len) refl within within

-- ---- a run

module _ {D L : Type 0} (d : DiskModel D) (m : LinkModel L) (client host : List ℕ) (old new : Replica) (before after : D) (first now : L) where
  -- it was asked first, since a sync that is done got a reply
  asked_first : (state : State) (begun last : L) (report : SyncReport) → AsksFirst m client host state first begun (AsksInVain m client host old first now (Ok report)) → AsksFirst m client host state first begun (AsksInVain m client host old first last (Ok report))
  asked_first state begun last report asks fresh = by (asks fresh)
    where
      by : AsksSnapshot m client host first begun (λ reply. Unit {0}) ⊎ AsksInVain m client host old first now (Ok report) → AsksSnapshot m client host first begun (λ reply. Unit {0}) ⊎ AsksInVain m client host old first last (Ok report)
      by (inl asked) = inl asked
      by (inr (inl closed)) = inr (inl closed)
      by (inr (inr none)) = absurd none

  -- it is done, and the snapshot is sent
  pub runs_sent : (done : Done) (last : L) → ¬ (option_map (λ v. v.items) done.letter ≡ None) → OffersState m client host (state_of new.core) now last → RunsOpen d m client host old new before after first now (Ok done) → Runs d m client host old new before after first last (Ok done.report)
  runs_sent done last some sent run = record {
    start = run.start;
    begun = run.begun;
    begins = run.begins;
    asks = asked_first (state_of old.core) run.begun last done.report run.asks;
    rest = record {
      now = now;
      ends = run.rest.ends;
      offers = inr sent;
      wanted = λ tells. (let h = run.rest.letter.wanted tells in (h.0, h.1, λ wanted may. sent));
      unwanted = λ tells. (let h = run.rest.letter.unwanted tells in (h.0, h.1, λ calm. absurd (some (h.2 calm))));
    };
  }

  -- or there is none to send
  pub runs_silent : (done : Done) → option_map (λ v. v.items) done.letter ≡ None → RunsOpen d m client host old new before after first now (Ok done) → Runs d m client host old new before after first now (Ok done.report)
  runs_silent done none run = record {
    start = run.start;
    begun = run.begun;
    begins = run.begins;
    asks = run.asks;
    rest = record {
      now = now;
      ends = run.rest.ends;
      offers = inl refl;
      wanted = λ tells. (let h = run.rest.letter.wanted tells in (h.0, h.1, λ wanted may. absurd (h.2 wanted may none)));
      unwanted = λ tells. (let h = run.rest.letter.unwanted tells in (h.0, h.1, λ calm. refl));
    };
  }

  -- it is refused
  pub runs_refused : (e : SyncError) → RunsOpen d m client host old new before after first now (Err e) → Runs d m client host old new before after first now (Err e)
  runs_refused e run = record { start = run.start; begun = run.begun; begins = run.begins; asks = run.asks; rest = record { now = now; ends = run.rest.ends; offers = refl; wanted = tt; unwanted = tt } }
