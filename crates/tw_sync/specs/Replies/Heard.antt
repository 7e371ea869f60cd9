-- What a call heard over its link: its requests, and what the replies are read as (TaskChampion book, "HTTP Representation").
use Rattle.std.specs.Prelude.{◌≡◌, ◌⊎◌, ℕ, ◌+◌, ◌*◌, min, Bool, false, ◌||◌, IsTrue, List, [], ◌∷◌, ◌++◌, length, Result, Ok, Err}
use Rattle.tw_protocol.specs.Chain.{Version}
use Rattle.tw_protocol.specs.Answer.{version}
use Rattle.tw_http.specs.Link.{LinkModel, Exchange}
use Rattle.tw_http.specs.Messages.{request_text}
use Rattle.tw_http.specs.Responses.{IsResponseAnswer}
use Rattle.tw_http.specs.Serving.{client_of, kind_of}
use Rattle.tw_http.specs.declared.message.Request.{Request}
use Rattle.tw_http.specs.declared.message.Request.TheVariants as asks
use Rattle.tw_http.specs.declared.message.Response.{Response}
use Rattle.tw_http.specs.declared.message.Response.TheVariants.{Added, Conflict, Child, UpToDate, Gone, Bad, TooLong, Taken, Stored, Snapshot}
use Rattle.tw_http.specs.declared.message.HttpError.{HttpError}
use Rattle.tw_sync.specs.declared.error.SyncError.{SyncError}
use Rattle.tw_sync.specs.declared.error.SyncError.TheVariants as errors

-- a request, and what the reply to it is read as
pub record Heard : Type 0 where
  pub asked : Request
  pub reply : Result Response HttpError

abbrev pub heard : Request → Result Response HttpError → Heard
heard asked reply = record { asked = asked; reply = reply }

-- an exchange sent the text of this request, which is of this client
pub record IsSent (client host : List ℕ) (exchange : Exchange) (asked : Request) : Type 0 where
  pub client_is : client_of asked ≡ client
  pub text : exchange.request ≡ request_text asked host

-- an exchange sent this request, and its reply is read so
pub record IsHeard (client host : List ℕ) (exchange : Exchange) (heard : Heard) : Type 0 where
  pub sent : IsSent client host exchange heard.asked
  pub read_as : IsResponseAnswer (kind_of heard.asked) exchange.reply heard.reply

-- exchanges, one after another
abbrev pub AreHeard : (client host : List ℕ) → List Exchange → List Heard → Type 0
AreHeard client host [] hs = hs ≡ []
AreHeard client host (x ∷ xs) [] = ⊥
AreHeard client host (x ∷ xs) (h ∷ hs) = IsHeard client host x h × AreHeard client host xs hs

-- all that a call heard
pub record Hears {L : Type 0} (m : LinkModel L) (client host : List ℕ) (old new : L) (hs : List Heard) : Type 0 where
  pub exchanges : List Exchange
  pub listed : m.list new ≡ m.list old ++ exchanges
  pub are_heard : AreHeard client host exchanges hs

-- all that a call heard, except the last reply, which it did not read
pub record HearsUnread {L : Type 0} (m : LinkModel L) (client host : List ℕ) (old new : L) (hs : List Heard) : Type 0 where
  pub exchanges : List Exchange
  pub last : Exchange
  pub listed : m.list new ≡ m.list old ++ (exchanges ++ last ∷ [])
  pub are_heard : AreHeard client host exchanges hs
  pub asked : Request
  pub sent : IsSent client host last asked

-- all that a refused call heard: if memory ran out, it may not have read the last reply
abbrev pub HearsUntil : {L : Type 0} → LinkModel L → (client host : List ℕ) → (old new : L) → List Heard → SyncError → Type 0
HearsUntil m client host old new hs errors.Memory = Hears m client host old new hs ⊎ HearsUnread m client host old new hs
HearsUntil m client host old new hs (errors.Journal e) = Hears m client host old new hs
HearsUntil m client host old new hs errors.Link = Hears m client host old new hs
HearsUntil m client host old new hs (errors.Reply kind) = Hears m client host old new hs
HearsUntil m client host old new hs (errors.Gone base) = Hears m client host old new hs
HearsUntil m client host old new hs (errors.Busy parent) = Hears m client host old new hs
HearsUntil m client host old new hs (errors.OutOfSync base parent) = Hears m client host old new hs
HearsUntil m client host old new hs (errors.Segment version) = Hears m client host old new hs
HearsUntil m client host old new hs (errors.SegmentTooLong bytes) = Hears m client host old new hs
HearsUntil m client host old new hs (errors.PullTooLong bytes) = Hears m client host old new hs

-- if the link tells its exchanges, what a call heard is such
abbrev pub HearsThat : {L : Type 0} → LinkModel L → (client host : List ℕ) → (old new : L) → (List Heard → Type 0) → Type 0
HearsThat m client host old new P = IsTrue (m.tells_list old) → (hs : List Heard) × Hears m client host old new hs × P hs

-- what a refused call heard is such
abbrev pub HearsUntilThat : {L : Type 0} → LinkModel L → (client host : List ℕ) → (old new : L) → SyncError → (List Heard → Type 0) → Type 0
HearsUntilThat m client host old new e P = IsTrue (m.tells_list old) → (hs : List Heard) × HearsUntil m client host old new hs e × P hs

-- a call heard this alone
abbrev pub HearsOne : {L : Type 0} → LinkModel L → (client host : List ℕ) → (old new : L) → Heard → Type 0
HearsOne m client host old new h = IsTrue (m.tells_list old) → Hears m client host old new (h ∷ [])

-- ---- counts of what was heard

-- the bytes of the segment that a 200 to get-child brought
abbrev pub brought_bytes : Result Response HttpError → List ℕ
brought_bytes (Ok (Child id parent segment)) = segment
brought_bytes (Ok (Added id wanted)) = []
brought_bytes (Ok (Conflict latest)) = []
brought_bytes (Ok UpToDate) = []
brought_bytes (Ok Gone) = []
brought_bytes (Ok Bad) = []
brought_bytes (Ok TooLong) = []
brought_bytes (Ok Taken) = []
brought_bytes (Ok Stored) = []
brought_bytes (Ok (Snapshot version bytes)) = []
brought_bytes (Err e) = []

-- the version that a 200 to get-child brought
abbrev pub brought_by : Result Response HttpError → List Version
brought_by (Ok (Child id parent segment)) = version id parent segment ∷ []
brought_by (Ok (Added id wanted)) = []
brought_by (Ok (Conflict latest)) = []
brought_by (Ok UpToDate) = []
brought_by (Ok Gone) = []
brought_by (Ok Bad) = []
brought_by (Ok TooLong) = []
brought_by (Ok Taken) = []
brought_by (Ok Stored) = []
brought_by (Ok (Snapshot version bytes)) = []
brought_by (Err e) = []

-- the version that a request to add one added under an id
abbrev pub added_as : Request → List ℕ → List Version
added_as (asks.Add client parent segment) id = version id parent segment ∷ []
added_as (asks.Child client parent) id = []
added_as (asks.AddSnapshot client version bytes) id = []
added_as (asks.Snapshot client) id = []

-- the version that a reply told of: a 200 to get-child brought it, or a 200 to add-version says that it was added
abbrev pub told_as : Request → Result Response HttpError → List Version
told_as asked (Ok (Child id parent segment)) = version id parent segment ∷ []
told_as asked (Ok (Added id wanted)) = added_as asked id
told_as asked (Ok (Conflict latest)) = []
told_as asked (Ok UpToDate) = []
told_as asked (Ok Gone) = []
told_as asked (Ok Bad) = []
told_as asked (Ok TooLong) = []
told_as asked (Ok Taken) = []
told_as asked (Ok Stored) = []
told_as asked (Ok (Snapshot version bytes)) = []
told_as asked (Err e) = []

-- how many versions a reply brought: one for a 200 to get-child
abbrev pub versions_of : Result Response HttpError → ℕ
versions_of reply = length (brought_by reply)

-- how many conflicts a reply is: one for a 409
abbrev pub conflicts_of : Result Response HttpError → ℕ
conflicts_of (Ok (Conflict latest)) = 1
conflicts_of (Ok (Child id parent segment)) = 0
conflicts_of (Ok (Added id wanted)) = 0
conflicts_of (Ok UpToDate) = 0
conflicts_of (Ok Gone) = 0
conflicts_of (Ok Bad) = 0
conflicts_of (Ok TooLong) = 0
conflicts_of (Ok Taken) = 0
conflicts_of (Ok Stored) = 0
conflicts_of (Ok (Snapshot version bytes)) = 0
conflicts_of (Err e) = 0

-- whether a reply asks for a snapshot: a 200 to add-version may
abbrev pub wants_snapshot : Result Response HttpError → Bool
wants_snapshot (Ok (Added id wanted)) = wanted
wants_snapshot (Ok (Child id parent segment)) = false
wants_snapshot (Ok (Conflict latest)) = false
wants_snapshot (Ok UpToDate) = false
wants_snapshot (Ok Gone) = false
wants_snapshot (Ok Bad) = false
wants_snapshot (Ok TooLong) = false
wants_snapshot (Ok Taken) = false
wants_snapshot (Ok Stored) = false
wants_snapshot (Ok (Snapshot version bytes)) = false
wants_snapshot (Err e) = false

-- the versions that were brought, one after another
abbrev pub versions_in : List Heard → List Version
versions_in [] = []
versions_in (h ∷ hs) = brought_by h.reply ++ versions_in hs

-- the versions that were told of, one after another
abbrev pub told_in : List Heard → List Version
told_in [] = []
told_in (h ∷ hs) = told_as h.asked h.reply ++ told_in hs

-- whether one of the replies asks for a snapshot
abbrev pub wanted_in : List Heard → Bool
wanted_in [] = false
wanted_in (h ∷ hs) = wants_snapshot h.reply || wanted_in hs

-- how many bytes of segments were brought
abbrev pub pulled_bytes : List Heard → ℕ
pulled_bytes [] = 0
pulled_bytes (h ∷ hs) = length (brought_bytes h.reply) + pulled_bytes hs

-- how many versions were brought
abbrev pub brought : List Heard → ℕ
brought [] = 0
brought (h ∷ hs) = versions_of h.reply + brought hs

-- how many replies were 409
abbrev pub conflicts : List Heard → ℕ
conflicts [] = 0
conflicts (h ∷ hs) = conflicts_of h.reply + conflicts hs

-- the most exchanges of a sync that ends, if so many versions were brought
abbrev pub most_exchanges : ℕ → ℕ
most_exchanges pulled = pulled + 2 * (min pulled 15 + 1)
