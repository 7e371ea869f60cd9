-- The path of a sync through a chain: one version after another is pulled or pushed.
use Rattle.std.specs.Prelude.{◌≡◌, ℕ, ◌+◌, ◌≤◌, Bool, nat_le, List, [], ◌∷◌, ◌++◌, length}
use Rattle.tw_model.specs.Ops.{TasksValue, apply_all, fit_part}
use Rattle.tw_model.specs.declared.SyncOp.{SyncOp}
use Rattle.tw_protocol.specs.Chain.{Version}
use Rattle.tw_segment.specs.Segment.{max_len, segment_text, IsSegment}
use Rattle.tw_groups.specs.Groups.{Groups, joined}
use Rattle.tw_groups.specs.Cross.{cross}
use Rattle.tw_groups.specs.Cut.{first, rest}

-- the most bytes of a segment that a sync makes of more than one operation
abbrev pub max_batch : ℕ
max_batch = 1_048_576

-- whether operations are sent as one version: their segment is within that limit
abbrev pub is_batch : List SyncOp → Bool
is_batch ops = nat_le (length (segment_text ops)) max_batch

-- where a path leads: a version, the tasks that the chain makes up to it, what is left of the pending groups, and the operations that are
-- carried to the tasks at hand
pub record Reached : Type 0 where
  pub at : List ℕ
  pub tasks : TasksValue
  pub left : Groups
  pub carried : List SyncOp

-- one version of a path, with its operations: another's, or one that this sync added
pub data Leg : Type 0 where
  Pull : Version → List SyncOp → Leg
  Push : Version → List SyncOp → Leg

-- where a version leads. One that is pulled crosses what is left, as far as it fits; one that is pushed is the first part of what was left
abbrev pub passed : Reached → Leg → Reached
passed r (Pull v ops) =
    let crossed = cross (fit_part r.tasks ops) r.left in
    record { at = v.id; tasks = apply_all r.tasks ops; left = crossed.1; carried = r.carried ++ crossed.0 }
passed r (Push v ops) = record { at = v.id; tasks = apply_all r.tasks ops; left = rest is_batch r.left; carried = r.carried }

-- where versions lead, one after another
abbrev pub come : Reached → List Leg → Reached
come r [] = r
come r (leg ∷ legs) = come (passed r leg) legs

-- a version that is pushed: its operations are what is sent first of what is left, and its segment is their text
pub record IsPush (r : Reached) (v : Version) (ops : List SyncOp) : Type 0 where
  pub parent : v.parent ≡ r.at
  pub reads : IsSegment v.segment ops
  pub some : ¬ (joined r.left ≡ [])
  pub sent : ops ≡ first is_batch r.left
  pub text : v.segment ≡ segment_text ops
  pub short : length v.segment ≤ max_len

-- a version may come next
abbrev pub MayPass : Reached → Leg → Type 0
MayPass r (Pull v ops) = (v.parent ≡ r.at) × IsSegment v.segment ops
MayPass r (Push v ops) = IsPush r v ops

-- each version may come next at the place to which those before it lead
abbrev pub IsPath : Reached → List Leg → Type 0
IsPath r [] = Unit {0}
IsPath r (leg ∷ legs) = MayPass r leg × IsPath (passed r leg) legs

-- ---- what is on a path

abbrev pub version_on : Leg → Version
version_on (Pull v ops) = v
version_on (Push v ops) = v

abbrev pub ops_on : Leg → List SyncOp
ops_on (Pull v ops) = ops
ops_on (Push v ops) = ops

-- the versions
abbrev pub versions_of : List Leg → List Version
versions_of [] = []
versions_of (leg ∷ legs) = version_on leg ∷ versions_of legs

-- all their operations
abbrev pub ops_of : List Leg → List SyncOp
ops_of [] = []
ops_of (leg ∷ legs) = ops_on leg ++ ops_of legs

-- the version, if this sync added it
abbrev pub added_on : Leg → List Version
added_on (Pull v ops) = []
added_on (Push v ops) = v ∷ []

abbrev pub added_of : List Leg → List Version
added_of [] = []
added_of (leg ∷ legs) = added_on leg ++ added_of legs

-- how many versions are pulled
abbrev pub is_pull : Leg → ℕ
is_pull (Pull v ops) = 1
is_pull (Push v ops) = 0

abbrev pub pulled_of : List Leg → ℕ
pulled_of [] = 0
pulled_of (leg ∷ legs) = is_pull leg + pulled_of legs

-- how many operations are pushed
abbrev pub sent_on : Leg → ℕ
sent_on (Pull v ops) = 0
sent_on (Push v ops) = length ops

abbrev pub sent_of : List Leg → ℕ
sent_of [] = 0
sent_of (leg ∷ legs) = sent_on leg + sent_of legs
