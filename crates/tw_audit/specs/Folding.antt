-- A chain is folded version by version, from nil up to a version that is asked for.
use Rattle.std.specs.Prelude.{◌≡◌, ℕ, ◌+◌, ◌<◌, ◌≤◌, ◌^◌, List, [], ◌∷◌, length, IsTrue}
use Rattle.uuid.specs.Parts.{zero_bytes}
use Rattle.tw_model.specs.Ops.{apply_all}
use Rattle.tw_model.specs.declared.SyncOp.{SyncOp}
use Rattle.tw_protocol.specs.Chain.{Version}
use Rattle.tw_http.specs.Link.{LinkModel, IsHonest}
use Rattle.tw_segment.specs.Segment.{IsSegment}
use Rattle.tw_segment.specs.Refusals.{IsUnread}
use Rattle.tw_segment.specs.declared.error.SegmentError.{SegmentError}
use Rattle.tw_segment.specs.declared.error.SegmentError.TheVariants as segments
use Rattle.tw_path.specs.Fold.{IsFold}
use Rattle.tw_sync.specs.Replies.Heard.{Heard, Hears}
use Rattle.tw_audit.specs.declared.folding.Folded.{Folded}
use Rattle.tw_audit.specs.declared.error.AuditError.{AuditError}
use Rattle.tw_audit.specs.declared.error.AuditError.TheVariants.{Link, Reply, Gone, Segment, Memory}
use Rattle.tw_audit.specs.Refused.{Refuses}

-- one version more is folded in
pub record TakesVersion (old new : Folded) (id segment : List ℕ) : Type 0 where
  pub ops : List SyncOp
  pub reads : IsSegment segment ops
  pub at : new.at ≡ id
  pub count : new.versions ≡ old.versions + 1
  pub within : new.versions < 2 ^ 64
  pub tasks : new.tasks ≡ apply_all old.tasks ops

-- why it is not
abbrev pub IsNotTaken : (id segment : List ℕ) → AuditError → Type 0
IsNotTaken id segment (Segment version) = (version ≡ id) × ((error : SegmentError) × IsUnread segment error × ¬ (error ≡ segments.Memory))
IsNotTaken id segment Memory = Unit {0}
IsNotTaken id segment Link = ⊥
IsNotTaken id segment (Reply kind) = ⊥
IsNotTaken id segment (Gone version) = ⊥

-- h and the versions after it, without the last one, are others than this
abbrev pub AreOthers : (base h : List ℕ) → List Version → Type 0
AreOthers base h [] = Unit {0}
AreOthers base h (v ∷ vs) = ¬ (h ≡ base) × AreOthers base v.id vs

-- the chain is folded up to a version, and the one that is asked for did not come before that
pub record IsOnTheWay (chain : List Version) (base : List ℕ) (folded : Folded) : Type 0 where
  pub fold : IsFold chain folded.at folded.tasks
  pub count : folded.versions ≡ length fold.front
  pub passed : AreOthers base zero_bytes fold.front

-- over an honest link it is one version farther on its way
pub record FoldsOn {L : Type 0} (m : LinkModel L) (client host base : List ℕ) (first : L) (old : Folded) (last : L) (new : Folded) : Type 0 where
  pub count : new.versions ≡ old.versions + 1
  pub within : new.versions < 2 ^ 64
  pub exchanges : m.exchanges last ≤ m.exchanges first + 1
  pub heard : IsTrue (m.tells_list first) → (hs : List Heard) × Hears m client host first last hs
  pub way : IsHonest m first client → IsOnTheWay (m.chain first) base old → IsOnTheWay (m.chain last) base new

-- over an honest link it stops for a reason, wherever it is on its way
pub record StopsFolding {L : Type 0} (m : LinkModel L) (client host base : List ℕ) (first : L) (old : Folded) (last : L) (e : AuditError) : Type 0 where
  pub why : (IsHonest m first client → IsOnTheWay (m.chain first) base old) → Refuses m client host base first last e

-- the chain is folded to its version, by an exchange for each version at most
pub record IsFoldedTo {L : Type 0} (m : LinkModel L) (client host base : List ℕ) (first last : L) (folded : Folded) : Type 0 where
  pub at : folded.at ≡ base
  pub exchanges : m.exchanges last ≤ m.exchanges first + folded.versions
  pub heard : IsTrue (m.tells_list first) → (hs : List Heard) × Hears m client host first last hs
  pub way : IsHonest m first client → IsOnTheWay (m.chain last) base folded
