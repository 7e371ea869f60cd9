-- The laws of a path through a chain.
use Rattle.std.specs.Prelude.{◌≡◌, ◌+◌, ◌≤◌, List, ◌++◌, length}
use Rattle.tw_model.specs.Ops.{TasksValue, apply_all, FitAll, fit_part}
use Rattle.tw_model.specs.declared.SyncOp.{SyncOp}
use Rattle.tw_protocol.specs.Chain.{Version, IsChain, IsBetween}
use Rattle.tw_transform.specs.Grid.{grid}
use Rattle.tw_transform.specs.Positions.{IsPosition}
use Rattle.tw_groups.specs.Groups.{joined}
use Rattle.tw_path.specs.Fold.{IsFold}
use Rattle.tw_path.specs.Path.{Reached, Leg, come, IsPath, versions_of, ops_of, sent_of}

-- a place beside the tasks at hand: what is left fits there, what is carried fits the tasks at hand, and both lead to the same tasks
pub record StandsBeside (hand : TasksValue) (r : Reached) : Type 0 where
  pub fits : FitAll r.tasks (joined r.left)
  pub carried_fits : FitAll hand r.carried
  pub same : apply_all hand r.carried ≡ apply_all r.tasks (joined r.left)

-- a path keeps that
abbrev pub PathStandsBeside : Type 0
PathStandsBeside = (hand : TasksValue) (r : Reached) (legs : List Leg) → StandsBeside hand r → IsPath r legs → StandsBeside hand (come r legs)

-- it leads to the tasks of its start and all operations of its versions
abbrev pub PathApplies : Type 0
PathApplies = (r : Reached) (legs : List Leg) → (come r legs).tasks ≡ apply_all r.tasks (ops_of legs)

-- what is left is what all its versions leave of what was left at its start, also those that were pushed
abbrev pub PathIsPosition : Type 0
PathIsPosition = (r : Reached) (legs : List Leg) → FitAll r.tasks (joined r.left) → IsPath r legs
    → IsPosition r.tasks (joined r.left) (ops_of legs) (joined (come r legs).left)

-- and what is carried is the server's side of that
abbrev pub PathCarries : Type 0
PathCarries = (r : Reached) (legs : List Leg) → FitAll r.tasks (joined r.left) → IsPath r legs
    → (come r legs).carried ≡ r.carried ++ (grid (fit_part r.tasks (ops_of legs)) (joined r.left)).0

-- a path and then another are one
abbrev pub PathsJoin : Type 0
PathsJoin = (r : Reached) (legs more : List Leg) → (come r (legs ++ more) ≡ come (come r legs) more)
    × (IsPath r legs → IsPath (come r legs) more → IsPath r (legs ++ more))

-- the first versions of a path are one, and so are the others
abbrev pub PathSplits : Type 0
PathSplits = (r : Reached) (legs more : List Leg) → IsPath r (legs ++ more) → IsPath r legs × IsPath (come r legs) more

-- what was left is sent, or left, or was dropped
abbrev pub PathCounts : Type 0
PathCounts = (r : Reached) (legs : List Leg) → IsPath r legs → sent_of legs + length (joined (come r legs).left) ≤ length (joined r.left)

-- a path from the tasks of a chain leads to the tasks of that chain
abbrev pub PathFolds : Type 0
PathFolds = (chain : List Version) (r : Reached) (legs : List Leg) → IsChain chain → IsFold chain r.at r.tasks → IsPath r legs
    → IsBetween chain r.at (come r legs).at (versions_of legs) → IsFold chain (come r legs).at (come r legs).tasks

-- a list has two parts, of which the server's operations leave these
pub record IsPartedBy (ss ls xs ys : List SyncOp) : Type 0 where
  pub one : List SyncOp
  pub two : List SyncOp
  pub split : ls ≡ one ++ two
  pub is_one : (grid ss one).1 ≡ xs
  pub is_two : (grid (grid ss one).0 two).1 ≡ ys

-- if what is left has two parts, so has what it is left of
abbrev pub CutPullsBack : Type 0
CutPullsBack = (ss ls xs ys : List SyncOp) → (grid ss ls).1 ≡ xs ++ ys → IsPartedBy ss ls xs ys
