-- Opening the replica that a disk holds, and the records that a run leaves.
use Rattle.std.specs.Prelude.{◌≡◌, ℕ, false, List, [], ◌++◌, drop, Some}
use Rattle.tw_world.specs.Disk.{DiskModel, Tells}
use Rattle.tw_journal.specs.Record.{rows}
use Rattle.tw_journal.specs.Form.{Records, start_in}
use Rattle.tw_state.specs.State.{State, Stands}
use Rattle.tw_replica.specs.Replica.{magic, SameState}
use Rattle.tw_replica.specs.Opening.{opened_bodies}
use Rattle.tw_cli.specs.Cause.{end_of, may_write}
use Rattle.tw_ending.specs.Ending.End.{Failed}
use Rattle.tw_cli.specs.declared.cause.Cause.{Cause}

-- a file has these records from where they begin to its end
pub record EndsWithRecords (file : List ℕ) (bodies : List (List ℕ)) : Type 0 where
  pub start : ℕ
  pub form : start_in magic file ≡ Some start
  pub rest : drop start file ≡ rows bodies

-- a file's records stood for a state; now these come after those that its opening leaves, nothing comes after them, and all stand for another state
pub record HasMore (before after : List ℕ) (more : List (List ℕ)) (old new : State) : Type 0 where
  pub bodies : List (List ℕ)
  pub had : Records magic before bodies
  pub stood : Stands bodies old
  pub has : Records magic after (opened_bodies before old bodies ++ more)
  pub end : EndsWithRecords after (opened_bodies before old bodies ++ more)
  pub stands : Stands (opened_bodies before old bodies ++ more) new

-- the records are those that an opening leaves, and stand for this state
abbrev pub Stays : {D : Type 0} → DiskModel D → (d0 d1 : D) → State → Type 0
Stays m d0 d1 state = Tells m d0 → HasMore (m.seen d0) (m.seen d1) [] state state

-- a run that did not end well leaves the state, unless a record may be there: after a fault of the disk, or of the hours, or a sync that was stopped
abbrev pub KeepsState : {D : Type 0} → DiskModel D → (d0 d1 : D) → Cause → Type 0
KeepsState m d0 d1 cause = end_of cause ≡ Failed → may_write cause ≡ false → Tells m d0 → SameState (m.seen d0) (m.seen d1)
