-- A snapshot that a new replica is given.
use Rattle.std.proofs.Common.{◌≡◌, ℕ, ◌+◌, ◌≤◌, inl, inr, Bool, true, false, ◌||◌, List, [], ◌∷◌, ◌++◌, length, drop, Option, Some, None, IfSome, Result, Ok, Err, IsTrue, refl, sym, ap, subst, ◌∙◌}
use Rattle.std.proofs.lemmas.List.{append-nil, drop_at}
use Rattle.tw_model.specs.Ops.{TasksValue}
use Rattle.tw_protocol.specs.Chain.{Version, has_id, same_id, last_from}
use Rattle.tw_protocol.proofs.Chains.{same_id_exact}
use Rattle.tw_protocol.specs.Snapshots.{Snapshot, offered}
use Rattle.uuid.specs.Parts.{zero_bytes}
use Rattle.tw_http.specs.Link.{LinkModel, IsHonest, IsChainOf, IsServedChain, Serves, MayServe}
use Rattle.tw_http.specs.Messages.{request_text, max_body}
use Rattle.tw_http.specs.Responses.{IsResponseAnswer}
use Rattle.tw_http.specs.Serving.{response_of}
use Rattle.tw_http.specs.declared.message.Asked.TheVariants as asked
use Rattle.tw_http.specs.declared.message.Request.TheVariants as asks
use Rattle.tw_http.specs.declared.message.Response.{Response}
use Rattle.tw_http.specs.declared.message.Response.TheVariants as replies
use Rattle.tw_http.specs.declared.message.HttpError.{HttpError}
use Rattle.tw_snapshot.specs.Snapshot.{snapshot_of}
use Rattle.tw_sync.specs.Start.{IsKnownStart, BringsNoSnapshot, HasStored}
use Rattle.tw_sync.specs.Start.{Start}
use Rattle.tw_sync.specs.Replies.Given.{ReadsGiven, StoredBy, IsAskedFor, IsUnheard}
use Rattle.tw_sync.specs.Replies.Answers.{IsLinkKept, ListsOne, NoReply}
use Rattle.tw_sync.specs.Replies.Heard.{HearsUntil}
use Rattle.tw_sync.specs.Ends.Causes.{of_ask}
use Rattle.tw_sync.specs.declared.given.Given.{Given}
use Rattle.tw_sync.specs.declared.error.AskError.{AskError}
use Rattle.tw_sync.specs.declared.error.AskError.TheVariants as asking
use Rattle.tw_sync.specs.declared.error.SyncError.TheVariants as errors
use Rattle.tw_sync.proofs.Served.{reply_is, serves_grows, serves_after, may_serve_grows}
use Rattle.tw_sync.proofs.HonestAnswers.{grown, chain_served}
use Rattle.tw_sync.proofs.HeardBadReply.{hears_one, hears_unread}
use Rattle.tw_sync.proofs.CursorInChain.{cut_grows}

-- ---- the question

none_more : (chain : List Version) → drop (length chain) chain ≡ []
none_more chain = ap (drop (length chain)) (sym (append-nil chain)) ∙ drop_at chain [] (length chain) refl

module _ {L : Type 0} (m : LinkModel L) (client host : List ℕ) (old new : L) (kept : IsLinkKept m old new) (whole : IsChainOf m new) where
  fetched_mine : (reply : List ℕ) → Serves (m.chain old) (m.chain new) (m.own old) (m.own new) (asks.Snapshot client) reply → m.own new ≡ m.own old
  fetched_mine reply s = s.mine ∙ ap (λ vs. m.own old ++ vs) (none_more s.at.chain) ∙ append-nil (m.own old)

  fetched_may : MayServe (m.chain old) (m.chain new) (m.own old) (m.own new) (asks.Snapshot client) → m.own new ≡ m.own old
  fetched_may (inl others) = others.mine
  fetched_may (inr (reply, s)) = fetched_mine reply s

  -- no reply was read
  pub unheard : (e : AskError) → m.exchanges new ≤ m.exchanges old + 1 → (IsTrue (m.tells_list old) → HearsUntil m client host old new [] (of_ask e)) → (IsHonest m old client → MayServe (m.chain old) (m.chain new) (m.own old) (m.own new) (asks.Snapshot client))
      → IsUnheard m client host old new (of_ask e)
  unheard e count hears may = record {
    kept = kept;
    count = count;
    on = λ honest. grown m old new client kept honest whole (may_serve_grows (m.chain old) (m.chain new) (m.own old) (m.own new) (asks.Snapshot client) (may honest));
    mine = λ honest. fetched_may (may honest);
    hears = hears;
  }

  -- ---- the reply

  abbrev ServesIt : List ℕ → Type 0
  ServesIt reply = Serves (m.chain old) (m.chain new) (m.own old) (m.own new) (asks.Snapshot client) reply

  same_snapshot : {v b w c : List ℕ} → ◌≡◌ {A = Response} (replies.Snapshot v b) (replies.Snapshot w c) → (v ≡ w) × (b ≡ c)
  same_snapshot e = (cc, cc)

  ok_is : {r s : Response} → ◌≡◌ {A = Result Response HttpError} (Ok r) (Ok s) → r ≡ s
  ok_is e = cc

  snapshot_is : (version bytes : List ℕ) (s : Snapshot) → version ≡ s.version → bytes ≡ s.bytes → ◌≡◌ {A = Snapshot} s (record { version = version; bytes = bytes })
  snapshot_is version bytes s a b = λ i. record { version = sym a i; bytes = sym b i }

  stored_is : (o : Option Snapshot) (version bytes : List ℕ) → replies.Snapshot version bytes ≡ response_of (offered o) → o ≡ Some (record { version = version; bytes = bytes })
  stored_is None version bytes e = let none : ⊥ = cc in absurd none
  stored_is (Some s) version bytes e = let same = same_snapshot e in ap (λ (x : Snapshot). Some x) (snapshot_is version bytes s same.0 same.1)

  known_there : (o : Option Snapshot) (chain : List Version) (version bytes : List ℕ) → o ≡ Some (record { version = version; bytes = bytes }) → IfSome o (λ s. (has_id s.version chain ≡ true) × (length s.bytes ≤ max_body)) → has_id version chain ≡ true
  known_there o chain version bytes is stored = (subst (λ (x : Option Snapshot). IfSome x (λ s. (has_id s.version chain ≡ true) × (length s.bytes ≤ max_body))) is stored).0

  stored : (reply : List ℕ) (s : ServesIt reply) (version bytes : List ℕ) (tasks : TasksValue) → IsServedChain (m.chain new) → IsResponseAnswer asked.Snapshot reply (Ok (replies.Snapshot version bytes)) → snapshot_of bytes ≡ Some tasks
      → HasStored (m.chain old) (m.chain new) version tasks
  stored reply s version bytes tasks served read reads =
      let is = stored_is s.at.stored version bytes (ok_is (reply_is (m.chain old) (m.chain new) (m.own old) (m.own new) (asks.Snapshot client) reply s served (Ok (replies.Snapshot version bytes)) read)) in
      record {
        at = s.at;
        before = s.before;
        after = serves_after (m.chain old) (m.chain new) (m.own old) (m.own new) (asks.Snapshot client) reply s;
        bytes = bytes;
        stored = is;
        known = known_there s.at.stored s.at.chain version bytes is s.stored;
        reads = reads;
      }

  stored_by : (reply : List ℕ) (given : Option Given) → (IsHonest m old client → ServesIt reply) → (r : ReadsGiven reply given) → StoredBy m client old new given
  stored_by reply None serves r = tt
  stored_by reply (Some given) serves (r, read, brings) = λ honest.
      stored reply (serves honest) given.version brings.bytes given.tasks (chain_served m old new client kept honest whole) (subst (IsResponseAnswer asked.Snapshot reply) brings.reply_is read) brings.reads

  pub asked_for : (reply : List ℕ) (given : Option Given) → m.exchanges new ≤ m.exchanges old + 1 → ListsOne m old new (request_text (asks.Snapshot client) host) reply → (IsHonest m old client → ServesIt reply) → ReadsGiven reply given → IsAskedFor m client host old new given
  asked_for reply given count listed serves r = record {
    asked_is = record {
      kept = kept;
      count = count;
      on = λ honest. grown m old new client kept honest whole (serves_grows (m.chain old) (m.chain new) (m.own old) (m.own new) (asks.Snapshot client) reply (serves honest));
      mine = λ honest. fetched_mine reply (serves honest);
      heard_is = λ tells. (r.0, hears_one m old new (asks.Snapshot client) host reply r.0 (listed tells) r.1, r.2);
    };
    stored = stored_by reply given serves r;
  }

  -- want of memory for the reply
  pub unread : (reply : List ℕ) → m.exchanges new ≤ m.exchanges old + 1 → ListsOne m old new (request_text (asks.Snapshot client) host) reply → (IsHonest m old client → ServesIt reply) → IsUnheard m client host old new errors.Memory
  unread reply count listed serves = unheard asking.Memory count (λ tells. inr (hears_unread m old new (asks.Snapshot client) host reply (listed tells))) (λ honest. inr (reply, serves honest))

-- ---- the version of a snapshot

-- a version with an id, and those before it
abbrev HasCut : (h id : List ℕ) → List Version → Type 0
HasCut h id chain = (front : List Version) × (back : List Version) × (chain ≡ front ++ back) × (last_from h front ≡ id)

id_later : (h id : List ℕ) (v : Version) (vs : List Version) → HasCut v.id id vs → HasCut h id (v ∷ vs)
id_later h id v vs (front, back, split, is) = (v ∷ front, back, ap (λ xs. v ∷ xs) split, is)

id_by : (h id : List ℕ) (v : Version) (vs : List Version) (b : Bool) → same_id v.id id ≡ b → b || has_id id vs ≡ true → (has_id id vs ≡ true → HasCut v.id id vs) → HasCut h id (v ∷ vs)
id_by h id v vs true same e later = (v ∷ [], vs, refl, same_id_exact v.id id same)
id_by h id v vs false other e later = id_later h id v vs (later e)

id_in : (h id : List ℕ) (chain : List Version) → has_id id chain ≡ true → HasCut h id chain
id_in h id [] e = absurd cc
id_in h id (v ∷ vs) e = id_by h id v vs (same_id v.id id) refl e (id_in v.id id vs)

pub known_start : (old new : List Version) (version : List ℕ) (tasks : TasksValue) → HasStored old new version tasks → IsKnownStart (Start.Snapshot version tasks) new
known_start old new version tasks s =
    let there = id_in zero_bytes version s.at.chain s.known in
    (there.0, there.1 ++ s.after.more, cut_grows s.at.chain new version there.0 there.1 (record { split = there.2; at = there.3 }) s.after)

-- ---- before and after the question

pub honest_before : {L : Type 0} (m : LinkModel L) (client : List ℕ) (old new : L) → IsLinkKept m old new → IsHonest m new client → IsHonest m old client
honest_before m client old new kept h = record { honest = subst IsTrue kept.honest h.honest; tells = subst IsTrue kept.tells_chain h.tells; of_client = sym kept.client ∙ h.of_client }

-- nothing is heard if no exchange is listed
pub hears_nothing : {L : Type 0} (m : LinkModel L) (client host : List ℕ) (old new : L) (e : AskError) → NoReply e → m.list new ≡ m.list old → HearsUntil m client host old new [] (of_ask e)
hears_nothing m client host old new asking.Link none same = record { exchanges = []; listed = same ∙ sym (append-nil (m.list old)); are_heard = refl }
hears_nothing m client host old new asking.Memory none same = inl (record { exchanges = []; listed = same ∙ sym (append-nil (m.list old)); are_heard = refl })
hears_nothing m client host old new (asking.Reply kind) (inl is) same = absurd cc
hears_nothing m client host old new (asking.Reply kind) (inr is) same = absurd cc

-- ---- what a reply brings

is_none : {A : Type 0} {a : A} (o : Option A) → None ≡ o → o ≡ Some a → ⊥
is_none None e f = cc
is_none (Some x) e f = cc

bytes_same : {v b w c : List ℕ} → ◌≡◌ {A = Result Response HttpError} (Ok (replies.Snapshot v b)) (Ok (replies.Snapshot w c)) → b ≡ c
bytes_same e = cc

pub unreadable : (version bytes : List ℕ) → None ≡ snapshot_of bytes → BringsNoSnapshot (Ok (replies.Snapshot version bytes))
unreadable version bytes none = λ v tasks s. is_none (snapshot_of bytes) none (ap snapshot_of (bytes_same s.reply_is) ∙ s.reads)

-- a reply that is no 200
abbrev pub IsNone : Result Response HttpError → Type 0
IsNone (Ok (replies.Snapshot version bytes)) = ⊥
IsNone (Ok replies.Bad) = Unit {0}
IsNone (Ok replies.TooLong) = Unit {0}
IsNone (Ok replies.Taken) = Unit {0}
IsNone (Ok (replies.Added id wanted)) = Unit {0}
IsNone (Ok (replies.Conflict last)) = Unit {0}
IsNone (Ok (replies.Child id parent segment)) = Unit {0}
IsNone (Ok replies.UpToDate) = Unit {0}
IsNone (Ok replies.Gone) = Unit {0}
IsNone (Ok replies.Stored) = Unit {0}
IsNone (Err e) = Unit {0}

pub brings_none : (reply : Result Response HttpError) → IsNone reply → BringsNoSnapshot reply
brings_none reply none = λ v tasks s. subst IsNone s.reply_is none
