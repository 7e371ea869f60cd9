-- From the link that a sync is given to the one at which its path begins: a question for a snapshot lies between at most.
use Rattle.std.proofs.Common.{◌≡◌, ◌⊎◌, ℕ, inl, inr, false, List, [], ◌∷◌, ◌++◌, Result, Ok, Err, IsTrue, refl, sym, ap, subst, ◌∙◌, append_assoc}
use Rattle.std.proofs.lemmas.Bool.{true≢false}
use Rattle.std.proofs.lemmas.List.{append-nil}
use Rattle.std.specs.List.{AllByRecursion}
use Rattle.tw_world.specs.Disk.{DiskModel}
use Rattle.tw_protocol.specs.Chain.{Version, Grows}
use Rattle.tw_model.specs.Ops.{TasksValue}
use Rattle.tw_journal.specs.Journal.{is_closed}
use Rattle.tw_http.specs.Link.{LinkModel, Exchange, IsHonest}
use Rattle.tw_http.specs.Responses.{IsResponseAnswer}
use Rattle.tw_http.specs.declared.message.Asked.TheVariants as asked
use Rattle.tw_http.specs.declared.message.Request.TheVariants as asks
use Rattle.tw_http.specs.declared.message.Response.{Response}
use Rattle.tw_http.specs.declared.message.HttpError.{HttpError}
use Rattle.tw_path.specs.Fold.{IsFold}
use Rattle.tw_outcome.specs.Agreement.{Agrees}
use Rattle.tw_state.specs.State.{State}
use Rattle.tw_state.specs.Core.{state_of}
use Rattle.tw_replica.specs.declared.replica.Replica.{Replica}
use Rattle.tw_path.specs.Path.{Reached}
use Rattle.tw_outcome.specs.Start.{starts_at, Starts}
use Rattle.tw_outcome.specs.End.{Answer, End}
use Rattle.tw_sync.specs.Start.{Start, from_state, MayStart, IsSoundStart, AsksSnapshot, AsksFirst, Begins, IsSnapshotOf, IsSoundExchange, SoundSnapshots}
use Rattle.tw_sync.specs.Start.{GivenSoundly}
use Rattle.tw_sync.specs.Replies.Heard.{Heard, heard, AreHeard, HearsUntil}
use Rattle.tw_sync.specs.Start.Start.{Base, Snapshot}
use Rattle.tw_sync.specs.Replies.Answers.{IsLinkKept}
use Rattle.tw_sync.specs.Ends.End.{EndFrom}
use Rattle.tw_sync.specs.Sync.{server_chain}
use Rattle.tw_sync.specs.Contract.{EndsSomehow, GetsNoReply, AsksInVain, Runs}
use Rattle.tw_sync.specs.Ends.Offer.{OffersAfter}
use Rattle.tw_sync.specs.declared.report.SyncReport.{SyncReport}
use Rattle.tw_sync.specs.declared.error.SyncError.{SyncError}
use Rattle.tw_sync.specs.declared.error.SyncError.TheVariants as errors
pub use Rattle.tw_sync.proofs.EndsSeen.{ends_before, ends_after}
use Rattle.tw_sync.proofs.Folds.{agrees_is_kept}
use Rattle.tw_sync.proofs.Hearing.{kept_same, kept_on}
use Rattle.tw_sync.proofs.HonestAnswers.{still_honest}
use Rattle.tw_sync.proofs.Served.{grows_same, grows_on}

-- ---- the beginning

pub starts_of : (start : Start) (old : State) → MayStart start old → Starts old (starts_at (from_state start old))
starts_of Base old may = inl refl
starts_of (Snapshot version tasks) old may = inr (record { fresh = may; version = version; tasks = tasks; is = refl })

module _ {L : Type 0} (m : LinkModel L) (client host : List ℕ) (state : State) (first begun : L) where
  pub may_start : (start : Start) → Begins m client host state first begun start → MayStart start state
  may_start Base b = tt
  may_start (Snapshot version tasks) b = b.fresh

  pub begun_kept : (start : Start) → Begins m client host state first begun start → IsLinkKept m first begun
  begun_kept Base (inl same) = subst (IsLinkKept m first) (sym same) (kept_same m first)
  begun_kept Base (inr over) = over.asked.kept
  begun_kept (Snapshot version tasks) b = b.asked.kept

  pub begun_honest : (start : Start) → Begins m client host state first begun start → IsHonest m first client → IsHonest m begun client
  begun_honest start b honest = still_honest m first begun client (begun_kept start b) honest

  pub begun_grows : (start : Start) → Begins m client host state first begun start → IsHonest m first client → Grows (m.chain first) (m.chain begun)
  begun_grows Base (inl same) honest = subst (λ l. Grows (m.chain first) (m.chain l)) (sym same) (grows_same (m.chain first))
  begun_grows Base (inr over) honest = (over.asked.on honest).grows
  begun_grows (Snapshot version tasks) b honest = (b.asked.on honest).grows

  pub begun_mine : (start : Start) → Begins m client host state first begun start → IsHonest m first client → m.own begun ≡ m.own first
  begun_mine Base (inl same) honest = ap (λ l. m.own l) same
  begun_mine Base (inr over) honest = over.asked.mine honest
  begun_mine (Snapshot version tasks) b honest = b.asked.mine honest

-- ---- the list of exchanges

-- the list has grown
abbrev HasGrown : {L : Type 0} → LinkModel L → (first now : L) → Type 0
HasGrown m first now = (ys : List Exchange) × (m.list now ≡ m.list first ++ ys)

until_list : {L : Type 0} (m : LinkModel L) (client host : List ℕ) (first now : L) (hs : List Heard) (e : SyncError) → HearsUntil m client host first now hs e → HasGrown m first now
until_list m client host first now hs errors.Memory (inl h) = (h.exchanges, h.listed)
until_list m client host first now hs errors.Memory (inr h) = (h.exchanges ++ h.last ∷ [], h.listed)
until_list m client host first now hs (errors.Journal e) h = (h.exchanges, h.listed)
until_list m client host first now hs errors.Link h = (h.exchanges, h.listed)
until_list m client host first now hs (errors.Reply kind) h = (h.exchanges, h.listed)
until_list m client host first now hs (errors.Gone base) h = (h.exchanges, h.listed)
until_list m client host first now hs (errors.Busy parent) h = (h.exchanges, h.listed)
until_list m client host first now hs (errors.OutOfSync base parent) h = (h.exchanges, h.listed)
until_list m client host first now hs (errors.Segment version) h = (h.exchanges, h.listed)
until_list m client host first now hs (errors.SegmentTooLong bytes) h = (h.exchanges, h.listed)
until_list m client host first now hs (errors.PullTooLong bytes) h = (h.exchanges, h.listed)

list_after : {D L : Type 0} (d : DiskModel D) (m : LinkModel L) (client host : List ℕ) (start : Start) (old new : Replica) (before after : D) (first now : L) (result : Result SyncReport SyncError) → EndsSomehow d m client host start old new before after first now result → IsTrue (m.tells_list first)
    → HasGrown m first now
list_after d m client host start old new before after first now (Ok report) ends tells = let h = ends.done.heard tells in (h.1.exchanges, h.1.listed)
list_after d m client host start old new before after first now (Err e) ends tells = let h = ends.refused.heard tells in until_list m client host first now h.0 e h.1

-- the one exchange that asked for a snapshot is sound
first_sound : (chain : List Version) (client host version : List ℕ) (tasks : TasksValue) (reply : Result Response HttpError) (xs ys : List Exchange) → AreHeard client host xs (heard (asks.Snapshot client) reply ∷ []) → IsSnapshotOf version tasks reply
    → AllByRecursion (IsSoundExchange chain client host) (xs ++ ys) → IsFold chain version tasks
first_sound chain client host version tasks reply [] ys none brings all = absurd cc
first_sound chain client host version tasks reply (x ∷ xs) ys is brings all = all.0 version brings.bytes tasks is.0.sent.text (subst (IsResponseAnswer asked.Snapshot x.reply) brings.reply_is is.0.read_as) brings.reads

-- ---- what is sent after it

module _ {L : Type 0} (m : LinkModel L) (client host : List ℕ) (state : State) (now last : L) where
  pub offers_kept : (result : Result SyncReport SyncError) → OffersAfter m client host state now last result → IsLinkKept m now last
  offers_kept (Ok report) (inl same) = subst (IsLinkKept m now) (sym same) (kept_same m now)
  offers_kept (Ok report) (inr o) = o.offers.kept
  offers_kept (Err e) same = subst (IsLinkKept m now) (sym same) (kept_same m now)

  pub offers_mine : (result : Result SyncReport SyncError) → OffersAfter m client host state now last result → IsHonest m now client → m.own last ≡ m.own now
  offers_mine (Ok report) (inl same) honest = ap (λ l. m.own l) same
  offers_mine (Ok report) (inr o) honest = o.offers.mine honest
  offers_mine (Err e) same honest = ap (λ l. m.own l) same

  pub offers_grow : (result : Result SyncReport SyncError) → OffersAfter m client host state now last result → IsHonest m now client → Grows (m.chain now) (m.chain last)
  offers_grow (Ok report) (inl same) honest = subst (λ l. Grows (m.chain now) (m.chain l)) (sym same) (grows_same (m.chain now))
  offers_grow (Ok report) (inr o) honest = (o.offers.on honest).grows
  offers_grow (Err e) same honest = subst (λ l. Grows (m.chain now) (m.chain l)) (sym same) (grows_same (m.chain now))

  list_same : last ≡ now → HasGrown m now last
  list_same same = ([], ap (λ l. m.list l) same ∙ sym (append-nil (m.list now)))

  list_by : (text : List ℕ) → (m.list last ≡ m.list now) ⊎ ((reply : List ℕ) × (m.list last ≡ m.list now ++ record { request = text; reply = reply } ∷ [])) → HasGrown m now last
  list_by text (inl same) = ([], same ∙ sym (append-nil (m.list now)))
  list_by text (inr (reply, is)) = (record { request = text; reply = reply } ∷ [], is)

  pub offers_list : (result : Result SyncReport SyncError) → OffersAfter m client host state now last result → IsTrue (m.tells_list now) → HasGrown m now last
  offers_list (Ok report) (inl same) tells = list_same same
  offers_list (Ok report) (inr o) tells = list_by o.text (o.offers.listed tells)
  offers_list (Err e) same tells = list_same same

-- ---- a run

module _ {D L : Type 0} (d : DiskModel D) (m : LinkModel L) (client host : List ℕ) (old new : Replica) (before after : D) (first last : L) (result : Result SyncReport SyncError) (run : Runs d m client host old new before after first last result) where
  abbrev now : L
  now = run.rest.now

  now_kept : IsLinkKept m first now
  now_kept = kept_on m first run.begun now (begun_kept m client host (state_of old.core) first run.begun run.start run.begins) run.rest.ends.any.link_kept

  now_grows : IsHonest m first client → Grows (m.chain first) (m.chain now)
  now_grows honest =
      grows_on (m.chain first) (m.chain run.begun) (m.chain now) (begun_grows m client host (state_of old.core) first run.begun run.start run.begins honest)
      (run.rest.ends.any.grows (begun_honest m client host (state_of old.core) first run.begun run.start run.begins honest))

  pub runs_kept : IsLinkKept m first last
  runs_kept = kept_on m first now last now_kept (offers_kept m client host (state_of new.core) now last result run.rest.offers)

  pub runs_grows : IsHonest m first client → Grows (m.chain first) (m.chain last)
  runs_grows honest =
      grows_on (m.chain first) (m.chain now) (m.chain last) (now_grows honest) (offers_grow m client host (state_of new.core) now last result run.rest.offers (still_honest m first now client now_kept honest))

  -- an end is one also over the chain as it was before the question
  pub runs_before : (answer : Answer) → IsHonest m first client → EndFrom answer run.start (state_of old.core) (state_of new.core) (server_chain m run.begun) (server_chain m now)
      → EndFrom answer run.start (state_of old.core) (state_of new.core) (server_chain m first) (server_chain m now)
  runs_before answer honest e =
      ends_before answer (state_of old.core) (starts_at (from_state run.start (state_of old.core))) (state_of new.core) (server_chain m first) (server_chain m run.begun) (server_chain m now)
      (begun_grows m client host (state_of old.core) first run.begun run.start run.begins honest) (begun_mine m client host (state_of old.core) first run.begun run.start run.begins honest) e

  -- and over the chain after what was sent last
  pub runs_after : (answer : Answer) → IsHonest m first client → EndFrom answer run.start (state_of old.core) (state_of new.core) (server_chain m run.begun) (server_chain m now)
      → EndFrom answer run.start (state_of old.core) (state_of new.core) (server_chain m first) (server_chain m last)
  runs_after answer honest e =
      let there = still_honest m first now client now_kept honest in
      ends_after answer (state_of old.core) (starts_at (from_state run.start (state_of old.core))) (state_of new.core) (server_chain m first) (server_chain m now) (server_chain m last)
      (offers_grow m client host (state_of new.core) now last result run.rest.offers there) (offers_mine m client host (state_of new.core) now last result run.rest.offers there) (runs_before answer honest e)

  -- so it is one of a sync whose path starts somewhere
  pub runs_ended : (answer : Answer) → IsHonest m first client → (IsHonest m run.begun client → EndFrom answer run.start (state_of old.core) (state_of new.core) (server_chain m run.begun) (server_chain m now))
      → (start : Reached) × Starts (state_of old.core) start × End answer (state_of old.core) start (state_of new.core) (server_chain m first) (server_chain m last)
  runs_ended answer honest ends = (
    starts_at (from_state run.start (state_of old.core)),
    starts_of run.start (state_of old.core) (may_start m client host (state_of old.core) first run.begun run.start run.begins),
    runs_after answer honest (ends (begun_honest m client host (state_of old.core) first run.begun run.start run.begins honest)),
  )

  -- a new replica asked first for the snapshot, unless it got no reply
  pub runs_ask : is_closed old.journal ≡ false → AsksFirst m client host (state_of old.core) first run.begun (GetsNoReply m client host first last result)
  runs_ask live fresh = by (run.asks fresh)
    where
      Asked : Type 0
      Asked = AsksSnapshot m client host first run.begun (λ reply. Unit {0})

      by : Asked ⊎ AsksInVain m client host old first last result → Asked ⊎ GetsNoReply m client host first last result
      by (inl asked) = inl asked
      by (inr (inl closed)) = absurd (true≢false (sym closed ∙ live))
      by (inr (inr none)) = inr none

  -- a snapshot that it started from is sound over a later chain, if those of the exchanges till then are
  module _ (later : L) where
    runs_sound : (IsTrue (m.tells_list now) → HasGrown m now later) → IsTrue (m.tells_list first) → SoundSnapshots m client host first later
        → (start : Start) → Begins m client host (state_of old.core) first run.begun start → IsSoundStart start (m.chain later)
    runs_sound grown tells sound Base b = tt
    runs_sound grown tells sound (Snapshot version tasks) b =
        let asked = b.asked.heard_is tells in
        let more = list_after d m client host run.start old new before after run.begun now result run.rest.ends (b.asked.kept.tells_list ∙ tells) in
        let rest = grown (now_kept.tells_list ∙ tells) in
        first_sound (m.chain later) client host version tasks asked.0 asked.1.exchanges (more.0 ++ rest.0) asked.1.are_heard asked.2
        (sound (asked.1.exchanges ++ (more.0 ++ rest.0))
        (rest.1 ∙ ap (λ xs. xs ++ rest.0) (more.1 ∙ ap (λ xs. xs ++ more.0) asked.1.listed ∙ append_assoc (m.list first) asked.1.exchanges more.0)
        ∙ append_assoc (m.list first) (asked.1.exchanges ++ more.0) rest.0 ∙ ap (λ xs. m.list first ++ xs) (append_assoc asked.1.exchanges more.0 rest.0)))

    given_soundly : (IsTrue (m.tells_list now) → HasGrown m now later) → GivenSoundly m client host (state_of old.core) first later
        → (start : Start) → Begins m client host (state_of old.core) first run.begun start → IsSoundStart start (m.chain later)
    given_soundly grown given Base b = tt
    given_soundly grown given (Snapshot version tasks) b = let g = given b.fresh in runs_sound grown g.0 g.1 (Snapshot version tasks) b

  pub runs_sound_start : GivenSoundly m client host (state_of old.core) first now → IsSoundStart run.start (m.chain now)
  runs_sound_start given = given_soundly now (λ tells. ([], sym (append-nil (m.list now)))) given run.start run.begins

  -- over the chain after what was sent last
  pub runs_sound_last : GivenSoundly m client host (state_of old.core) first last → IsSoundStart run.start (m.chain last)
  runs_sound_last given = given_soundly last (offers_list m client host (state_of new.core) now last result run.rest.offers) given run.start run.begins

  -- a replica that agreed with the chain agrees with it
  pub runs_agrees : IsHonest m first client → Agrees (state_of old.core) (m.chain first) → GivenSoundly m client host (state_of old.core) first now → Agrees (state_of new.core) (m.chain now)
  runs_agrees honest a given =
      run.rest.ends.any.agrees (begun_honest m client host (state_of old.core) first run.begun run.start run.begins honest)
      (agrees_is_kept (state_of old.core) (m.chain first) (m.chain run.begun) a (begun_grows m client host (state_of old.core) first run.begun run.start run.begins honest)) (runs_sound_start given)
