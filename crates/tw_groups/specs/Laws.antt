-- The laws of groups.
use Rattle.std.specs.Prelude.{◌≡◌, ℕ, Bool, true, false, List, [], ◌∷◌, ◌++◌}
use Rattle.tw_model.specs.Maps.{same_bytes}
use Rattle.tw_model.specs.Ops.{TasksValue, uuid_of, apply_all, FitAll}
use Rattle.tw_model.specs.LocalOps.{plain, FitAllLocal, apply_all_local, take_back_all}
use Rattle.tw_model.specs.declared.Op.{Op}
use Rattle.tw_model.specs.declared.SyncOp.{SyncOp}
use Rattle.tw_transform.specs.Grid.{grid}
use Rattle.tw_groups.specs.Groups.{Groups, joined, parts_of, groups_of, renewed, pending_on}
use Rattle.tw_groups.specs.Cross.{cross}
use Rattle.tw_groups.specs.Cut.{IsLimit, IsFirst, cut, first, rest}

-- the groups hold what is exchanged
abbrev pub GroupsHoldAll : Type 0
GroupsHoldAll = (pending : List Op) → plain pending ≡ (parts_of pending).0 ++ joined (groups_of pending)

-- groups that fit become pending operations that fit, and act as the groups do
abbrev pub RenewedFits : Type 0
RenewedFits = (tasks : TasksValue) (gs : Groups) → FitAll tasks (joined gs)
    → FitAllLocal tasks (pending_on tasks gs) × (apply_all_local tasks (pending_on tasks gs) ≡ apply_all tasks (joined gs))

-- taking these back leads to the tasks before
abbrev pub RenewedGoesBack : Type 0
RenewedGoesBack = (tasks : TasksValue) (gs : Groups) → FitAll tasks (joined gs)
    → take_back_all (apply_all tasks (joined gs)) (pending_on tasks gs) ≡ tasks

-- their groups are those that they were made of
abbrev pub RenewedIsOfGroups : Type 0
RenewedIsOfGroups = (tasks : TasksValue) (gs : Groups) → (groups_of (pending_on tasks gs) ≡ gs) × (plain (pending_on tasks gs) ≡ joined gs)

-- pending operations that begin with an undo point and fit are what their groups become
abbrev pub PendingIsRenewed : Type 0
PendingIsRenewed = (tasks : TasksValue) (pending : List Op) → (parts_of pending).0 ≡ [] → FitAllLocal tasks pending
    → pending_on tasks (groups_of pending) ≡ pending

-- crossing groups is the grid with all they hold
abbrev pub CrossIsGrid : Type 0
CrossIsGrid = (ss : List SyncOp) (gs : Groups) → ((cross ss gs).0 ≡ (grid ss (joined gs)).0) × (joined (cross ss gs).1 ≡ (grid ss (joined gs)).1)

-- what is sent first and what is left are all there is
abbrev pub CutSplits : Type 0
CutSplits = (within : List SyncOp → Bool) (gs : Groups) → joined gs ≡ first within gs ++ joined (rest within gs)

-- if there is an operation, the longest row of whole groups within the limit is sent first; if no whole group is, then the longest row of
-- operations of one, but one operation at least
abbrev pub CutIsFirst : Type 0
CutIsFirst = (within : List SyncOp → Bool) (gs : Groups) → IsLimit within → ¬ (joined gs ≡ []) → IsFirst within gs (first within gs) (rest within gs)

-- the operations of a version may cross in two parts
abbrev pub CrossAppends : Type 0
CrossAppends = (ss ts : List SyncOp) (gs : Groups) → cross (ss ++ ts) gs ≡ (let one = cross ss gs in let two = cross ts one.1 in (one.0 ++ two.0, two.1))

-- none of these operations is about the task of a uuid
abbrev pub AreApart : List ℕ → List SyncOp → Type 0
AreApart u [] = Unit {0}
AreApart u (op ∷ ops) = (same_bytes u (uuid_of op) ≡ false) × AreApart u ops

-- an operation about no task of the groups changes none of them
abbrev pub CrossApart : Type 0
CrossApart = (op : SyncOp) (gs : Groups) → AreApart (uuid_of op) (joined gs) → cross (op ∷ []) gs ≡ (op ∷ [], gs)

-- without a limit all is sent at once
abbrev pub CutOfAll : Type 0
CutOfAll = (gs : Groups) → cut (λ ops. true) gs ≡ (joined gs, [])
