-- Why an audit has no answer.
use Rattle.std.specs.Prelude.{◌≡◌, ◌⊎◌, ℕ, List, [], ◌∷◌}
use Rattle.uuid.specs.Parts.{zero_bytes}
use Rattle.tw_world.specs.Disk.{Rose}
use Rattle.tw_protocol.specs.Chain.{Version, IsBetween}
use Rattle.tw_protocol.specs.Answer.{version, IsKnown}
use Rattle.tw_http.specs.Link.{LinkModel, IsHonest}
use Rattle.tw_segment.specs.Refusals.{IsUnread}
use Rattle.tw_segment.specs.declared.error.SegmentError.{SegmentError}
use Rattle.tw_segment.specs.declared.error.SegmentError.TheVariants as segments
use Rattle.tw_sync.specs.Replies.Heard.{Heard, HearsUntilThat}
use Rattle.tw_sync.specs.Ends.Refused.{EndedBy, IsBadOfChain, IsUpToDate, IsGone, IsBadSegment}
use Rattle.tw_sync.specs.declared.error.AskError.{AskError}
use Rattle.tw_sync.specs.declared.error.AskError.TheVariants as asking
use Rattle.tw_sync.specs.declared.error.SyncError.{SyncError}
use Rattle.tw_sync.specs.declared.error.SyncError.TheVariants as syncs
use Rattle.tw_audit.specs.declared.error.AuditError.{AuditError}
use Rattle.tw_audit.specs.declared.error.AuditError.TheVariants.{Link, Reply, Gone, Segment, Memory}

-- the cause that a refused question becomes
abbrev pub of_ask : AskError → AuditError
of_ask asking.Link = Link
of_ask (asking.Reply kind) = Reply kind
of_ask asking.Memory = Memory

-- the cause of a sync that says the same
abbrev pub as_sync : AuditError → SyncError
as_sync Link = syncs.Link
as_sync (Reply kind) = syncs.Reply kind
as_sync (Gone version) = syncs.Gone version
as_sync (Segment version) = syncs.Segment version
as_sync Memory = syncs.Memory

-- the server's last reply was that it has no version after one, and the base had not come; or that it does not know the one that it was asked for
abbrev pub EndsWithout : (client base version : List ℕ) → List Heard → Type 0
EndsWithout client base version hs =
    ((version ≡ base) × ((at : List ℕ) × EndedBy hs (IsUpToDate client at))) ⊎ EndedBy hs (IsGone client version)

-- what a refused audit heard last
abbrev pub EndsRefused : (client base : List ℕ) → List Heard → AuditError → Type 0
EndsRefused client base hs Link = Unit {0}
EndsRefused client base hs (Reply kind) = EndedBy hs (IsBadOfChain kind)
EndsRefused client base hs (Gone version) = EndsWithout client base version hs
EndsRefused client base hs (Segment version) = EndedBy hs (IsBadSegment version)
EndsRefused client base hs Memory = Unit {0}

-- a version of the chain whose segment can't be read
pub record IsUnreadIn (chain : List Version) (id : List ℕ) : Type 0 where
  pub parent : List ℕ
  pub segment : List ℕ
  pub between : IsBetween chain parent id (version id parent segment ∷ [])
  pub error : SegmentError
  pub unread : IsUnread segment error
  pub other : ¬ (error ≡ segments.Memory)

-- what a refusal says of the chain, over an honest link: no reply is bad, and what is not known is the base
abbrev pub HonestRefused : (base : List ℕ) (before after : List Version) → AuditError → Type 0
HonestRefused base before after Link = Unit {0}
HonestRefused base before after (Reply kind) = ⊥
HonestRefused base before after (Gone version) = (version ≡ base) × ¬ (IsKnown zero_bytes before base)
HonestRefused base before after (Segment version) = IsUnreadIn after version
HonestRefused base before after Memory = Unit {0}

-- a failed link counts it
abbrev pub CountsFault : {L : Type 0} → LinkModel L → (first last : L) → AuditError → Type 0
CountsFault m first last Link = Rose (m.faults first) (m.faults last)
CountsFault m first last (Reply kind) = Unit {0}
CountsFault m first last (Gone version) = Unit {0}
CountsFault m first last (Segment version) = Unit {0}
CountsFault m first last Memory = Unit {0}

-- why an audit up to this base is refused
pub record Refuses {L : Type 0} (m : LinkModel L) (client host base : List ℕ) (first last : L) (e : AuditError) : Type 0 where
  pub fault : CountsFault m first last e
  pub heard : HearsUntilThat m client host first last (as_sync e) (λ hs. EndsRefused client base hs e)
  pub honest : IsHonest m first client → HonestRefused base (m.chain first) (m.chain last) e
