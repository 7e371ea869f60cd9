-- A run as an event of a world.
use Rattle.std.specs.Prelude.{◌≡◌, ◌⊎◌, ℕ, List, [], ◌∷◌, Result, Ok, Err}
use Rattle.tw_world.specs.Disk.{DiskModel, Tells, LeavesOnly}
use Rattle.tw_protocol.specs.Chain.{Version}
use Rattle.tw_http.specs.Link.{LinkModel}
use Rattle.tw_state.specs.State.{State}
use Rattle.tw_replica.specs.Replica.{OpensTo}
use Rattle.tw_sync.specs.Theorem.{IsAmong, Runs}
use Rattle.tw_cli.specs.Agreement.{IsChainFor}
use Rattle.tw_cli.specs.Whole.{Outside, IsHonestFor, IsSoundFor}
use Rattle.tw_cli.specs.declared.asked.Job.{Job}
use Rattle.tw_cli.specs.declared.asked.Job.TheVariants.{Here, Sync, Generate}
use Rattle.tw_cli.specs.declared.asked.LineError.{LineError}
use Rattle.tw_cli.specs.declared.cause.Cause.{Cause}
use Rattle.tw_cli.specs.declared.cause.Cause.TheVariants.{Done, OutFault}

-- a file opens to one of these states
abbrev pub OpensAmong : List State → List ℕ → Type 0
OpensAmong states file = (state : State) × IsAmong states state × OpensTo file state

-- each image that a crash now may leave opens to one of the states
abbrev pub StandsFor : {D : Type 0} → DiskModel D → D → List State → Type 0
StandsFor m disk states = (file : List ℕ) → m.leaves disk file → OpensAmong states file

-- what is asked for opens the replica
abbrev pub OpensReplica : Result Job LineError → Type 0
OpensReplica (Ok (Here request)) = Unit {0}
OpensReplica (Ok (Sync server)) = Unit {0}
OpensReplica (Ok (Generate line settings)) = ⊥
OpensReplica (Err error) = ⊥

-- A run, which may open the replica, is an event of the world, which leaves these states. So is one that a crash cuts off at any moment, which leaves
-- those from before and perhaps the one that the run would have made
pub record RunsOn {D : Type 0} (m : DiskModel D) (d0 d1 : D) (opens : Type 0) (cause : Cause) (chain now : List Version) (states : List State) : Type 0 where
  pub left : List State
  pub runs : Runs chain now states left
  pub stands : StandsFor m d1 left
  -- what was carried out is all that each later crash leaves
  pub done : opens → (cause ≡ Done) ⊎ (cause ≡ OutFault) → (one : State) × (left ≡ one ∷ [])
  pub cut : List State
  pub cut_off : Runs chain now states cut
  pub any_moment : LeavesOnly m d0 d1 (OpensAmong cut)

-- in each world in which the disk stands for some states, the run is an event
abbrev pub IsEvent : {D S O L P F J : Type 0} → DiskModel D → LinkModel L → Result Job LineError → Outside D S O L P F J → Cause → Type 0
IsEvent m links asked w cause = (chain now : List Version) (states : List State) → Tells m w.d0 → IsHonestFor links asked w.l0
    → IsSoundFor m links asked w.d0 w.l0 w.l1 → StandsFor m w.d0 states → IsChainFor links asked w.l0 w.l1 chain now
    → RunsOn m w.d0 w.d1 (OpensReplica asked) cause chain now states
