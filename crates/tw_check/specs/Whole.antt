-- What is whole before the damage.
use Rattle.std.specs.Prelude.{◌≡◌, ◌<◌, ◌≤◌, ◌+◌, ℕ, List, ◌++◌, length, drop, Some, All}
use Rattle.tw_journal.specs.Record.{rows, IsRecordLength}
use Rattle.tw_journal.specs.Form.{start_in, selector_in}
use Rattle.tw_state.specs.State.{State, Stands}
use Rattle.tw_check.specs.declared.kind.Kind.{Kind}
use Rattle.tw_check.specs.declared.kind.Kind.TheVariants.{Tasks, Hours}
use Rattle.tw_check.specs.Kinds.{magic_of}
use Rattle.tw_check.specs.Rescue.{IsFront}

-- up to here a file has whole records, whatever is after them
pub record RowsUpTo (kind : Kind) (file : List ℕ) (end : ℕ) : Type 0 where
  pub start : ℕ
  pub form : start_in (magic_of kind) file ≡ Some start
  pub bodies : List (List ℕ)
  pub rest : List ℕ
  pub split : drop start file ≡ rows bodies ++ rest
  pub lengths : All IsRecordLength bodies
  pub ends : end ≡ start + length (rows bodies)

-- up to here it has whole records that lead to a state of tasks
pub record LeadsUpTo (file : List ℕ) (end : ℕ) : Type 0 where
  pub whole : RowsUpTo Tasks file end
  pub state : State
  pub stands : Stands whole.bodies state

-- no such record is left out of the front, unless the file is one whose upgrade was cut off
abbrev pub NothingWholeIsLeftOut : Type 0
NothingWholeIsLeftOut = (file front : List ℕ) → selector_in file < 4 → IsFront Tasks file front → (end : ℕ) → LeadsUpTo file end → end ≤ length front

-- of hours no whole record is
abbrev pub NoHoursAreLeftOut : Type 0
NoHoursAreLeftOut = (file front : List ℕ) → selector_in file < 4 → IsFront Hours file front → (end : ℕ) → RowsUpTo Hours file end → end ≤ length front
