-- The laws of folds, of agreement, and of what a sync added.
use Rattle.std.specs.Prelude.{◌≡◌, ℕ, List, [], ◌∷◌, ◌++◌}
use Rattle.tw_model.specs.Ops.{TasksValue, apply_all}
use Rattle.tw_model.specs.LocalOps.{plain}
use Rattle.tw_model.specs.declared.SyncOp.{SyncOp}
use Rattle.tw_protocol.specs.Chain.{Version, IsChain, Grows}
use Rattle.tw_state.specs.State.{State, start}
use Rattle.tw_state.specs.Sound.{IsSound}
use Rattle.tw_groups.specs.Groups.{joined}
use Rattle.tw_groups.specs.Cut.{rest}
use Rattle.tw_path.specs.Fold.{IsFold}
use Rattle.tw_path.specs.Path.{Leg, come, is_batch}
use Rattle.tw_path.specs.Path.Leg.{Push}
use Rattle.tw_path.specs.Sent.{WasSent, left_of_later}
use Rattle.tw_outcome.specs.Agreement.{Agrees}
use Rattle.tw_outcome.specs.End.{ServerChain, Went, starts_at}
pub mod LocalSteps
pub mod LaterOps

-- nothing is pending of no tasks, and nothing is up to nil
abbrev pub NewReplicaAgrees : Type 0
NewReplicaAgrees = (chain : List Version) → Agrees start chain

-- a replica that agrees with a chain agrees with it when it has grown
abbrev pub AgreesIsKept : Type 0
AgreesIsKept = (state : State) (old new : List Version) → Agrees state old → Grows old new → Agrees state new

-- a chain is folded to a version in one way
abbrev pub FoldIsOne : Type 0
FoldIsOne = (chain : List Version) (v : List ℕ) (tasks others : TasksValue) → IsChain chain → IsFold chain v tasks → IsFold chain v others → tasks ≡ others

-- the tasks of a replica are the chain folded to its base, then what is pending
abbrev pub PendingActsOnTheFold : Type 0
PendingActsOnTheFold = (state : State) (chain : List Version) (there : TasksValue) → IsChain chain → Agrees state chain → IsFold chain state.base there
    → state.tasks ≡ apply_all there (plain state.pending)

-- two replicas that have one base and nothing to send have the same tasks
abbrev pub AgreeingReplicasAreEqual : Type 0
AgreeingReplicasAreEqual = (one other : State) (chain : List Version) → IsChain chain → Agrees one chain → Agrees other chain
    → one.base ≡ other.base → plain one.pending ≡ [] → plain other.pending ≡ [] → one.tasks ≡ other.tasks

-- the tasks of a replica in which nothing is pending are a sound snapshot of its base
abbrev pub SentIsSound : Type 0
SentIsSound = (state : State) (chain : List Version) → Agrees state chain → state.pending ≡ [] → IsFold chain state.base state.tasks

-- each version that a sync added was sent, of what was pending when it began: the first operations, up to the last that it holds. Once it is
-- pulled, of the others what was left after it is left
abbrev pub AddedWasSent : Type 0
AddedWasSent = (old : State) (before after : ServerChain) (legs more : List Leg) (v : Version) (ops : List SyncOp) → IsSound old
    → Went (starts_at old) before after (legs ++ Push v ops ∷ more)
    → (mine : List SyncOp) × (later : List SyncOp) × (was : WasSent (starts_at old) after.chain mine later v.id)
    × (left_of_later (starts_at old).tasks mine later was.pulled ≡ joined (rest is_batch (come (starts_at old) legs).left))
