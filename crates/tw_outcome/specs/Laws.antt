-- The laws of the ends of a sync.
use Rattle.std.specs.Prelude.{◌≡◌, ◌⊎◌, true, List, [], Some, None}
use Rattle.tw_model.specs.Ops.{apply_all, FitAll}
use Rattle.tw_protocol.specs.Chain.{Version, IsChain, IsBetween}
use Rattle.tw_state.specs.State.{State, synced, misfit_synced, carried, may_pend, partly}
use Rattle.tw_state.specs.Sound.{IsSound}
use Rattle.tw_groups.specs.Groups.{joined, pending_on}
use Rattle.tw_path.specs.Path.{Reached, Leg, come, IsPath, versions_of, ops_of}
use Rattle.tw_path.specs.PathLaws.{StandsBeside}
use Rattle.tw_outcome.specs.Agreement.{Agrees}
use Rattle.tw_outcome.specs.Start.{starts_at, Starts, IsNewReplica, FromSnapshot, StartsSoundly}
use Rattle.tw_outcome.specs.End.{ServerChain, moved, stands_at, ends_at, Answer, End}

-- the path of a sound replica starts beside its tasks
abbrev pub StartStandsBeside : Type 0
StartStandsBeside = (state : State) → IsSound state → StandsBeside state.tasks (starts_at state)

-- if nothing is left, all operations of the versions, on the tasks without what is pending, lead to the end of the path
abbrev pub DoneIsSynced : Type 0
DoneIsSynced = (state : State) (legs : List Leg)
    → let r = come (starts_at state) legs in synced r.at (ops_of legs) state ≡ moved r.at [] r.tasks state

-- and so does what is carried, on the tasks at hand
abbrev pub DoneIsCarried : Type 0
DoneIsCarried = (state : State) (legs : List Leg) → IsSound state → IsPath (starts_at state) legs → joined (come (starts_at state) legs).left ≡ []
    → let r = come (starts_at state) legs in carried r.at r.carried state ≡ Some (moved r.at [] r.tasks state)

-- if something is left, what is carried and what is pending there lead to the replica there
abbrev pub StoppedIsPartly : Type 0
StoppedIsPartly = (state : State) (legs : List Leg) → IsSound state → IsPath (starts_at state) legs
    → let r = come (starts_at state) legs in
    (may_pend (apply_all state.tasks r.carried) (pending_on r.tasks r.left) ≡ true)
    × (partly r.at r.carried (pending_on r.tasks r.left) state ≡ Some (moved r.at (pending_on r.tasks r.left) (apply_all r.tasks (joined r.left)) state))

-- what is carried fits the tasks at hand, over any link
abbrev pub CarriedFits : Type 0
CarriedFits = (state : State) (legs : List Leg) → IsSound state → IsPath (starts_at state) legs
    → misfit_synced 0 state.tasks (come (starts_at state) legs).carried ≡ None

-- a replica that is stopped somewhere starts its next path there, with what was left
abbrev pub StoppedStartsThere : Type 0
StoppedStartsThere = (old : State) (r : Reached) → FitAll r.tasks (joined r.left)
    → starts_at (moved r.at (pending_on r.tasks r.left) (apply_all r.tasks (joined r.left)) old)
    ≡ record { at = r.at; tasks = r.tasks; left = r.left; carried = [] }

-- on a path from a snapshot nothing is left, and what is carried leads from its tasks to those at its end
pub record IsBeyond (start r : Reached) : Type 0 where
  pub left : r.left ≡ []
  pub tasks : r.tasks ≡ apply_all start.tasks r.carried

abbrev pub SnapshotLeadsOn : Type 0
SnapshotLeadsOn = (state : State) (start : Reached) (legs : List Leg) → FromSnapshot state start → IsPath start legs → IsBeyond start (come start legs)

-- it is done where it is stopped
abbrev pub SnapshotEndsAlike : Type 0
SnapshotEndsAlike = (state : State) (r : Reached) → r.left ≡ [] → stands_at state r ≡ ends_at state r

-- a path through a chain that starts at a replica's base, or at a sound snapshot. If it has passed no version, the chain need not know its start
pub record IsPathIn (chain : List Version) (old : State) (start : Reached) (legs : List Leg) : Type 0 where
  pub soundly : StartsSoundly chain old start
  pub path : IsPath start legs
  pub between : (legs ≡ []) ⊎ IsBetween chain start.at (come start legs).at (versions_of legs)

-- A new replica that begins at a sound snapshot ends as one that folds from the first version. Two paths to one version end in the same base, pending
-- operations, tasks and numbers, from wherever they start, and whether a sync is done there or stopped.
abbrev pub NewReplicasEndAlike : Type 0
NewReplicasEndAlike = (old : State) (chain : List Version) (one two : Reached) (legs more : List Leg) → IsChain chain → IsNewReplica old → Agrees old chain
    → IsPathIn chain old one legs → IsPathIn chain old two more → (come one legs).at ≡ (come two more).at
    → (stands_at old (come one legs) ≡ stands_at old (come two more)) × (ends_at old (come one legs) ≡ ends_at old (come two more))

-- a sync of a replica that agrees with the chain ends in one that agrees with it, whatever it answers, if the snapshot is sound that it starts at
abbrev pub EndAgrees : Type 0
EndAgrees = (answer : Answer) (old : State) (start : Reached) (new : State) (before after : ServerChain) → IsChain after.chain → Agrees old before.chain
    → StartsSoundly after.chain old start → End answer old start new before after → Agrees new after.chain
