-- The theorem on all worlds: machines that share one chain through a server, what befalls them, and what is then true of each.
use Rattle.std.specs.Prelude.{◌≡◌, ◌⊎◌, ℕ, ◌≤◌, Bool, true, false, List, [], ◌∷◌, ◌++◌, length, Option, Some, None}
use Rattle.std.specs.List.{AllByRecursion}
use Rattle.uuid.specs.Parts.{zero_bytes}
use Rattle.tw_model.specs.Ops.{TasksValue, apply_all}
use Rattle.tw_model.specs.LocalOps.{plain}
use Rattle.tw_model.specs.declared.Op.{Op}
use Rattle.tw_protocol.specs.Chain.{Version, Grows, IsUuid, same_id}
use Rattle.tw_protocol.specs.Snapshots.{Snapshot}
use Rattle.tw_http.specs.Link.{IsServedChain}
use Rattle.tw_http.specs.Messages.{max_body, request_body}
use Rattle.tw_http.specs.Serving.{account_after}
use Rattle.tw_http.specs.declared.message.Request.{Request}
use Rattle.tw_bodies.specs.Body.{is_group}
use Rattle.tw_state.specs.State.{State, start, committed, undone}
use Rattle.tw_path.specs.Fold.{IsFold}
use Rattle.tw_path.specs.Path.{Reached}
use Rattle.tw_outcome.specs.Agreement.{Agrees}
use Rattle.tw_outcome.specs.Start.{StartsSoundly}
use Rattle.tw_outcome.specs.End.{Answer as EndAnswer, End}

-- the chain of the machines' one client, and for each machine the states that the images of its disk open to
pub record World : Type 0 where
  pub chain : List Version
  pub machines : List (List State)

-- ---- what is claimed

abbrev pub AllAgree : List Version → List State → Type 0
AllAgree chain states = AllByRecursion (λ state. Agrees state chain) states

-- the chain is one that a server has, and each state of each machine agrees with it
pub record IsGood (world : World) : Type 0 where
  pub served : IsServedChain world.chain
  pub agree : AllByRecursion (AllAgree world.chain) world.machines

-- ---- what befalls a machine

abbrev pub IsAmong : List State → State → Type 0
IsAmong [] state = ⊥
IsAmong (first ∷ states) state = (first ≡ state) ⊎ IsAmong states state

-- a command that changes something: a commit of a group
pub record IsCommit (state next : State) : Type 0 where
  pub renumber : Bool
  pub ops : List Op
  pub group : is_group ops ≡ true
  pub step : committed renumber ops state ≡ Some next

-- a sync, whatever it answers, whatever was lost before it ended and whoever else added meanwhile. A snapshot that it starts from is sound
pub record IsSync (chain now : List Version) (state next : State) : Type 0 where
  pub own : List Version
  pub own_now : List Version
  pub answer : EndAnswer
  pub from : Reached
  pub sound : StartsSoundly now state from
  pub ended : End answer state from next (record { chain = chain; own = own }) (record { chain = now; own = own_now })

-- what a run makes of the state that it opens, if it writes a record
abbrev pub Makes : (chain now : List Version) → State → Option State → Type 0
Makes chain now state None = Unit {0}
Makes chain now state (Some next) = IsCommit state next ⊎ (undone state ≡ Some next) ⊎ IsSync chain now state next

abbrev pub with_next : List State → Option State → List State
with_next states None = states
with_next states (Some next) = states ++ next ∷ []

-- A run, to its end or cut off: its disk opens to what it opened to before, or to what the run makes. One that was carried out leaves this alone
pub record Runs (chain now : List Version) (states left : List State) : Type 0 where
  pub state : State
  pub among : IsAmong states state
  pub next : Option State
  pub makes : Makes chain now state next
  pub leaves : (left ≡ with_next states next) ⊎ ((one : State) × (next ≡ Some one) × (left ≡ one ∷ []))
  pub grows : Grows chain now
  pub served : IsServedChain chain → IsServedChain now

-- a crash leaves one of the states
pub record Crashes (states left : List State) : Type 0 where
  pub state : State
  pub among : IsAmong states state
  pub one : left ≡ state ∷ []

-- ---- what befalls a world

pub data Event : Type 0 where
  -- the machine with this number runs a command line
  Run : ℕ → Event
  -- it crashes
  Crash : ℕ → Event
  -- the server acts on a request, with this id: of a run whose reply is lost, of one that is sent again, or of another client
  Answer : Request → List ℕ → Event

-- one machine goes from some states to others
pub record OnMachine (number : ℕ) (Step : List State → List State → Type 0) (old new : World) : Type 0 where
  pub front : List (List State)
  pub states : List State
  pub left : List State
  pub back : List (List State)
  pub was : old.machines ≡ front ++ states ∷ back
  pub is : new.machines ≡ front ++ left ∷ back
  pub place : length front ≡ number
  pub step : Step states left

-- the server answers, whatever snapshot is stored
pub record Answers (request : Request) (id : List ℕ) (old new : World) : Type 0 where
  pub uuid : IsUuid id
  pub real : same_id id zero_bytes ≡ false
  pub fits : length (request_body request) ≤ max_body
  pub stored : Option Snapshot
  pub chain : new.chain ≡ (account_after (record { chain = old.chain; stored = stored }) request id).chain
  pub machines : new.machines ≡ old.machines

abbrev pub Leads : Event → World → World → Type 0
Leads (Run number) old new = OnMachine number (Runs old.chain new.chain) old new
Leads (Crash number) old new = OnMachine number Crashes old new × (new.chain ≡ old.chain)
Leads (Answer request id) old new = Answers request id old new

-- the disks are empty
pub record IsNew (world : World) : Type 0 where
  pub chain : world.chain ≡ []
  pub machines : AllByRecursion (λ states. states ≡ start ∷ []) world.machines

-- a world that these events lead to, the last of them first
abbrev pub Reach : List Event → World → Type 0
Reach [] world = IsNew world
Reach (event ∷ events) world = (before : World) × Reach events before × Leads event before world

-- in every world that any events lead to, each replica agrees with the chain
abbrev pub ReachedIsGood : Type 0
ReachedIsGood = (events : List Event) (world : World) → Reach events world → IsGood world

-- the tasks of a replica are the chain folded to its base, then what is pending
abbrev pub FollowsTheChain : List Version → State → Type 0
FollowsTheChain chain state = (there : TasksValue) → IsFold chain state.base there → state.tasks ≡ apply_all there (plain state.pending)

-- so those of each replica of every such world are
abbrev pub ReachedFollows : Type 0
ReachedFollows = (events : List Event) (world : World) → Reach events world → AllByRecursion (AllByRecursion (FollowsTheChain world.chain)) world.machines
