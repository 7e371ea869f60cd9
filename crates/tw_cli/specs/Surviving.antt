-- What becomes of the operations of a command that was carried out, along every list of events after it.
use Rattle.std.specs.Prelude.{◌≡◌, ◌⊎◌, ℕ, false, List, [], ◌∷◌, ◌++◌, get_or, Some, Result, Ok}
use Rattle.tw_world.specs.Disk.{DiskModel, Tells, FaultsRise}
use Rattle.tw_world.specs.declared.ids.IdWords.{IdWords}
use Rattle.tw_spawn.specs.Spawner.{SpawnerModel}
use Rattle.tw_model.specs.Ops.{TaskValue, fit_part}
use Rattle.tw_model.specs.LocalOps.{plain}
use Rattle.tw_model.specs.declared.SyncOp.{SyncOp}
use Rattle.tw_protocol.specs.Chain.{Version, IsBetween, Grows}
use Rattle.tw_segment.specs.Segment.{IsSegment}
use Rattle.tw_transform.specs.Table.{table}
use Rattle.tw_groups.specs.Groups.{Groups, groups_of}
use Rattle.tw_path.specs.Fold.{IsFold}
use Rattle.tw_path.specs.Path.{Reached, Leg, come, MayPass}
use Rattle.tw_path.specs.Path.Leg.{Pull}
use Rattle.tw_outcome.specs.Laws.{IsPathIn}
use Rattle.tw_bodies.specs.Body.{Step}
use Rattle.tw_bodies.specs.Body.Step.{Commit}
use Rattle.tw_state.specs.State.{State, undone}
use Rattle.tw_sync.specs.Theorem.{World, Event, IsAmong, Makes, Leads, Reach}
use Rattle.tw_commands.specs.Carried.{Carried, carried_out}
use Rattle.tw_changes.specs.declared.request.Request.{Request}
use Rattle.tw_cli.specs.Events.{OpensReplica, RunsOn}
use Rattle.tw_cli.specs.Meeting.{MeetsIn}
use Rattle.tw_cli.specs.Run.{CarriedOut}
use Rattle.tw_cli.specs.declared.asked.Job.{Job}
use Rattle.tw_cli.specs.declared.asked.LineError.{LineError}
use Rattle.tw_cli.specs.declared.cause.Cause.{Cause}
use Rattle.tw_cli.specs.declared.cause.Cause.TheVariants.{Done, OutFault}

-- ---- a command that was carried out

-- a run that carried a command out, on a disk that tells its bytes, is an event that leaves the state after the command and no other
abbrev pub DoneIsAlone : {D P : Type 0} → DiskModel D → SpawnerModel P → Type 0
DoneIsAlone {D = D} {P = P} m hooks = (request : Request) (ids : IdWords) (d0 d1 : D) (p0 p1 : P) (run : CarriedOut m hooks request ids d0 d1 p0 p1)
    (asked : Result Job LineError) (cause : Cause) (chain now : List Version) (states : List State) → Tells m d0 → FaultsRise m d0 d1
    → OpensReplica asked → (cause ≡ Done) ⊎ (cause ≡ OutFault) → (on : RunsOn m d0 d1 (OpensReplica asked) cause chain now states)
    → on.left ≡ run.carried.new ∷ []

-- ---- events after a world

-- these events lead from one world to another, the last of them first
abbrev pub Since : World → List Event → World → Type 0
Since from [] world = world ≡ from
Since from (event ∷ events) world = (before : World) × Since from events before × Leads event before world

-- the states that the disk of the machine with this number may open to
abbrev pub states_of : World → ℕ → List State
states_of world number = get_or world.machines number []

-- A machine came from one state to another, while the chain grew: each run that made one made it of the state before.
pub data Came (old : State) (chain : List Version) : List Version → State → Type 0 where
  stayed : Came old chain chain old
  grew : (before now : List Version) (state : State) → Came old chain before state → Grows before now → Came old chain now state
  ran : (before now : List Version) (state next : State) → Came old chain before state → Makes before now state (Some next) → Grows before now
      → Came old chain now next

-- ---- what is left of operations

-- this is one of them
abbrev pub IsIn : {X : Type 0} → List X → X → Type 0
IsIn [] x = ⊥
IsIn (first ∷ xs) x = (first ≡ x) ⊎ IsIn xs x

-- one of the versions holds the operation
pub record IsInVersion (versions : List Version) (op : SyncOp) : Type 0 where
  pub version : Version
  pub there : IsIn versions version
  pub ops : List SyncOp
  pub reads : IsSegment version.segment ops
  pub holds : IsIn ops op

-- A place on the path of a sync through a chain. A machine came from one state to another, and the path goes from the base of that, or from a sound
-- snapshot.
pub record IsPassed (old : State) (begin chain : List Version) (place : Reached) : Type 0 where
  pub before : List Version
  pub state : State
  pub came : Came old begin before state
  pub grows : Grows before chain
  pub from : Reached
  pub legs : List Leg
  pub on : IsPathIn chain state from legs
  pub is : place ≡ come from legs

-- The operation was pending at a place that was passed, whose tasks are the chain folded to it. From there one of the versions was pulled: an operation of
-- that, which fits there, met it, and it is not kept beside that one.
pub record WasDropped (old : State) (begin chain versions : List Version) (op : SyncOp) : Type 0 where
  pub place : Reached
  pub passed : IsPassed old begin chain place
  pub folded : IsFold chain place.at place.tasks
  pub version : Version
  pub there : IsIn versions version
  pub ops : List SyncOp
  pub may : MayPass place (Pull version ops)
  pub other : SyncOp
  pub met : MeetsIn (fit_part place.tasks ops) place.left other op
  pub lost : (table other op).local ≡ false

-- one of the versions holds the operation, or it was dropped as one of them was pulled
abbrev pub IsGone : (old : State) (begin chain versions : List Version) → SyncOp → Type 0
IsGone old begin chain versions op = IsInVersion versions op ⊎ WasDropped old begin chain versions op

-- these are left of operations, in their order: each of the others is gone
abbrev pub AreLeft : (SyncOp → Type 0) → (ops left : List SyncOp) → Type 0
AreLeft gone [] left = left ≡ []
AreLeft gone (op ∷ ops) left = ((more : List SyncOp) × (left ≡ op ∷ more) × AreLeft gone ops more) ⊎ (gone op × AreLeft gone ops left)

-- these are left of operations, once the chain was followed from the base of the state to a version: the others are in the versions between, or were
-- dropped as these were pulled
pub record Remain (old : State) (begin chain : List Version) (at : List ℕ) (ops left : List SyncOp) : Type 0 where
  pub versions : List Version
  pub between : IsBetween chain old.base at versions
  pub are : AreLeft (IsGone old begin chain versions) ops left

-- Operations that were pending in a state live on in another: what is left of them is a group of what is pending, unless nothing is left.
pub record LiveOn (old : State) (begin chain : List Version) (ops : List SyncOp) (state : State) : Type 0 where
  pub left : List SyncOp
  pub remain : Remain old begin chain state.base ops left
  pub pending : (left ≡ []) ⊎ IsIn (groups_of state.pending) left

-- what is left of them is the last group of what is pending, and an undo takes it back
pub record TakesThemBack (old : State) (begin chain : List Version) (ops : List SyncOp) (state next : State) : Type 0 where
  pub left : List SyncOp
  pub remain : Remain old begin chain state.base ops left
  pub some : ¬ (left ≡ [])
  pub before : Groups
  pub last : groups_of state.pending ≡ before ++ left ∷ []
  pub undo : undone state ≡ Some next

-- one of the runs was an undo that took them back
abbrev pub WereTakenBack : (old : State) (begin : List Version) → List SyncOp → {now : List Version} {state : State} → Came old begin now state → Type 0
WereTakenBack old begin ops stayed = ⊥
WereTakenBack old begin ops (grew before now state came grows) = WereTakenBack old begin ops came
WereTakenBack old begin ops (ran before now state next came makes grows) =
    WereTakenBack old begin ops came ⊎ TakesThemBack old begin before ops state next

-- ---- the law

-- the operations that a step adds
abbrev pub added_by : Step → List SyncOp
added_by (Commit renumber ops) = plain ops
added_by other = []

-- Once a command was carried out in some world, and its state is all that its machine's disk may open to: whatever befalls that world, each state that the
-- disk may open to came from this one, and the operations of the command live on in it, or on the way an undo took them back.
abbrev pub AcknowledgedSurvives : Type 0
AcknowledgedSurvives = (request : Request) (ids : IdWords) (answers : List TaskValue) (old : State) (carried : Carried)
    → carried_out request ids answers old ≡ Ok carried → (number : ℕ) (earlier events : List Event) (from now : World)
    → Reach earlier from → states_of from number ≡ carried.new ∷ [] → Since from events now → (state : State) → IsAmong (states_of now number) state
    → (came : Came carried.new from.chain now.chain state)
    × (LiveOn carried.new from.chain now.chain (added_by carried.step) state ⊎ WereTakenBack carried.new from.chain (added_by carried.step) came)
