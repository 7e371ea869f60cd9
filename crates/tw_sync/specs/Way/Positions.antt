-- What is left of a local list as versions of a chain are pulled and added.
use Rattle.std.specs.Prelude.{◌≡◌, ℕ, List, [], ◌∷◌, ◌++◌}
use Rattle.tw_model.specs.Ops.{TasksValue, apply_all, FitAll, fit_part}
use Rattle.tw_model.specs.declared.SyncOp.{SyncOp}
use Rattle.tw_protocol.specs.Chain.{Version, IsChain, IsBetween, latest}
use Rattle.tw_segment.specs.Segment.{IsSegment}
use Rattle.tw_transform.specs.Grid.{grid}
use Rattle.tw_transform.specs.Positions.{IsPosition}
use Rattle.tw_transform.specs.Refusals.{Refusal, sent_once}
use Rattle.tw_path.specs.Fold.{Reads, IsFold}

-- a local list over the chain folded to b is left as `left` once the versions after b up to h are pulled
pub record IsPositionIn (chain : List Version) (b : List ℕ) (mine : List SyncOp) (h : List ℕ) (left : List SyncOp) : Type 0 where
  pub base : TasksValue
  pub folded : IsFold chain b base
  pub versions : List Version
  pub between : IsBetween chain b h versions
  pub ops : List SyncOp
  pub reads : Reads versions ops
  pub position : IsPosition base mine ops left

-- nothing pulled leaves the local list as it is
abbrev pub ChainStarts : Type 0
ChainStarts = (chain : List Version) (b : List ℕ) (mine : List SyncOp) (base : TasksValue) → IsFold chain b base → IsPositionIn chain b mine b mine

-- the version after h is pulled: what was left crosses the part of it that fits there
abbrev pub ChainPulls : Type 0
ChainPulls = (chain : List Version) (b h : List ℕ) (v : Version) (mine left more : List SyncOp) (there : TasksValue) → IsChain chain
    → IsPositionIn chain b mine h left → IsBetween chain h v.id (v ∷ []) → IsFold chain h there → IsSegment v.segment more
    → IsPositionIn chain b mine v.id (grid (fit_part there more) left).1

-- what is left fits the chain folded to the version up to which was pulled
abbrev pub ChainFits : Type 0
ChainFits = (chain : List Version) (b h : List ℕ) (mine left : List SyncOp) (base there : TasksValue) → IsChain chain → IsFold chain b base → FitAll base mine
    → IsPositionIn chain b mine h left → IsFold chain h there → FitAll there left

-- a further version that holds a list acts on the chain's tasks
abbrev pub ChainPushes : Type 0
ChainPushes = (chain : List Version) (v : Version) (there : TasksValue) (mine : List SyncOp) → IsChain chain → IsFold chain (latest chain) there
    → IsSegment v.segment mine → IsFold (chain ++ v ∷ []) v.id (apply_all there mine)

-- what a refused sync sent comes back, and later operations were appended: only what is left of these is left
abbrev pub OwnVersionsCancelAt : Type 0
OwnVersionsCancelAt = (base : TasksValue) (mine pulled sent later : List SyncOp) → FitAll base mine → IsPosition base mine pulled sent
    → IsPosition base (mine ++ later) (pulled ++ sent) (grid (grid (fit_part base pulled) mine).0 later).1

-- a version that holds what was left at its parent leaves nothing of it
abbrev pub OwnVersionCancelsIn : Type 0
OwnVersionCancelsIn = (chain : List Version) (b h : List ℕ) (v : Version) (mine sent : List SyncOp) (base : TasksValue) → IsChain chain
    → IsFold chain b base → FitAll base mine → IsPositionIn chain b mine h sent → IsBetween chain h v.id (v ∷ []) → IsSegment v.segment sent
    → IsPositionIn chain b mine v.id []

-- what each of several refused syncs sends. The base stays, so all that is pending crosses what fits of all that was added since
abbrev pub sent_each : TasksValue → List SyncOp → List SyncOp → List Refusal → List (List SyncOp)
sent_each base pulled pending [] = []
sent_each base pulled pending (r ∷ rs) =
    let now = pulled ++ r.others in
    let sent = (grid (fit_part base now) pending).1 in
    sent ∷ sent_each base (now ++ sent) (pending ++ r.later) rs

-- the same refusals, each with the part of what others added that fits when it is pulled
abbrev pub fitted : TasksValue → List SyncOp → List SyncOp → List Refusal → List Refusal
fitted base pulled pending [] = []
fitted base pulled pending (r ∷ rs) =
    let now = pulled ++ r.others in
    let sent = (grid (fit_part base now) pending).1 in
    record { others = fit_part (apply_all base pulled) r.others; later = r.later } ∷ fitted base (now ++ sent) (pending ++ r.later) rs

-- what is pending fits the base each time
abbrev pub FitEach : TasksValue → List SyncOp → List Refusal → Type 0
FitEach base pending [] = Unit {0}
FitEach base pending (r ∷ rs) = FitAll base pending × FitEach base (pending ++ r.later) rs

-- each refused sync sends what is left of the operations since the one before: none is sent again
abbrev pub OwnVersionsCancelEachTime : Type 0
OwnVersionsCancelEachTime = (base : TasksValue) (mine : List SyncOp) (refusals : List Refusal) → FitEach base mine refusals
    → sent_each base [] mine refusals ≡ sent_once [] mine (fitted base [] mine refusals)
