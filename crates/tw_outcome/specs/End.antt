-- Where a sync ends, whatever it answers.
use Rattle.std.specs.Prelude.{◌≡◌, ◌⊎◌, ℕ, ◌+◌, cond, List, [], ◌∷◌, ◌++◌, length}
use Rattle.tw_model.specs.Ops.{TasksValue, apply_all}
use Rattle.tw_model.specs.LocalOps.{plain}
use Rattle.tw_model.specs.declared.Op.{Op}
use Rattle.tw_model.specs.declared.SyncOp.{SyncOp}
use Rattle.tw_protocol.specs.Chain.{Version, IsBetween, HoldsAll, Grows, same_id}
use Rattle.tw_numbers.specs.Numbering.{assigned}
use Rattle.tw_state.specs.State.{State}
use Rattle.tw_groups.specs.Groups.{joined, pending_on}
use Rattle.tw_path.specs.Path.{Reached, Leg, come, IsPath, versions_of, added_of, pulled_of, sent_of}
use Rattle.tw_path.specs.Path.Leg.{Push}
use Rattle.tw_path.specs.Sent.{PushesBehind}
pub use Rattle.tw_outcome.specs.Start.{starts_at}

-- what a link shows of a server's chain: its versions, and those of them that this replica's exchanges added
pub record ServerChain : Type 0 where
  pub chain : List Version
  pub own : List Version

-- the path that a sync has gone: through the versions after its start, of which it added those that are pushed and no other. If it has
-- passed none, the chain need not know its start
pub record Went (start : Reached) (before after : ServerChain) (legs : List Leg) : Type 0 where
  pub path : IsPath start legs
  pub between : (legs ≡ []) ⊎ IsBetween after.chain start.at (come start legs).at (versions_of legs)
  pub mine : after.own ≡ before.own ++ added_of legs
  pub behind : PushesBehind before.chain after.chain legs

-- the state at a version, with these operations pending after it, and the numbers assigned
abbrev pub moved : List ℕ → List Op → TasksValue → State → State
moved base pending tasks state = record { base = base; pending = pending; tasks = tasks; numbers = assigned state.numbers tasks }

-- the replica at the end of a path, with what is left pending
abbrev pub stands_at : State → Reached → State
stands_at old r = cond (same_id r.at old.base) old (moved r.at (pending_on r.tasks r.left) (apply_all r.tasks (joined r.left)) old)

-- the same if nothing is left, also no undo point
abbrev pub ends_at : State → Reached → State
ends_at old r = cond (same_id r.at old.base) old (moved r.at [] r.tasks old)

-- what a sync reports of itself
pub record Counts : Type 0 where
  pub pulled : ℕ
  pub dropped : ℕ
  pub pushed : ℕ
  pub base : List ℕ

-- it is done: the path ends after all that the chain held, and nothing is left
pub record IsDone (old : State) (start : Reached) (new : State) (before after : ServerChain) (report : Counts) : Type 0 where
  pub legs : List Leg
  pub went : Went start before after legs
  pub nothing : joined (come start legs).left ≡ []
  pub last : HoldsAll before.chain after.chain (come start legs).at
  pub state : new ≡ ends_at old (come start legs)
  pub pulled : report.pulled ≡ pulled_of legs
  pub pushed : report.pushed ≡ sent_of legs
  pub dropped : report.dropped + report.pushed ≡ length (plain old.pending)
  pub base : report.base ≡ (come start legs).at

-- no version, or one that was sent and whose answer did not come
abbrev pub IsUntold : List Leg → Type 0
IsUntold untold = (untold ≡ []) ⊎ ((v : Version) × (ops : List SyncOp) × (untold ≡ Push v ops ∷ []))

-- it is stopped by the link or the server: the replica is where it was told that the path leads
pub record IsStopped (old : State) (start : Reached) (new : State) (before after : ServerChain) : Type 0 where
  pub legs : List Leg
  pub untold : List Leg
  pub few : IsUntold untold
  pub went : Went start before after (legs ++ untold)
  pub state : new ≡ stands_at old (come start legs)

-- its record is not written: the replica is as it was
pub record IsKept (old : State) (start : Reached) (new : State) (before after : ServerChain) : Type 0 where
  pub legs : List Leg
  pub went : Went start before after legs
  pub state : new ≡ old

-- what a sync answers, as far as its end depends on that: done, or a cause of the link or the server, or that the record was not written
pub data Answer : Type 0 where
  Done : Counts → Answer
  Stopped : Answer
  Unwritten : Answer

abbrev pub EndsSo : Answer → (old : State) (start : Reached) (new : State) (before after : ServerChain) → Type 0
EndsSo (Done report) old start new before after = IsDone old start new before after report
EndsSo Stopped old start new before after = IsStopped old start new before after
EndsSo Unwritten old start new before after = IsKept old start new before after

-- the end of a sync of a replica, whose path starts here
abbrev pub End : Answer → (old : State) (start : Reached) (new : State) (before after : ServerChain) → Type 0
End answer old start new before after = Grows before.chain after.chain × EndsSo answer old start new before after
