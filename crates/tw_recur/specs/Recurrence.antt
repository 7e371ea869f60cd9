-- When a recurring task is due: task(1), under "recur".
use Rattle.std.specs.Prelude.{◌≤◌}
use Rattle.std.specs.Prelude.{◌<◌, ℕ, zero, suc, ◌+◌, ◌-◌, ◌^◌, Bool, true, false, cond, ◌&&◌, nat_lt, nat_le, List, [], Option, Some, None, unwrap_or, codes}
use Rattle.std.specs.Result.{result_ok}
use Rattle.std.specs.FinMap.{get}
use Rattle.tw_time.specs.Moments.{TimeZone}
use Rattle.tw_time.specs.declared.Length.{Length}
use Rattle.tw_time.specs.Lengths.{added, duration, shift_of, IsOfOneUnit}
use Rattle.tw_world.specs.declared.moment.TheConstants.{MOMENT_LIMIT}
use Rattle.tw_model.specs.Ops.{TaskValue}
use Rattle.tw_urgency.specs.Stored.{moment_at}
use Rattle.tw_urgency.specs.Status.{has_status}
use Rattle.tw_recur.specs.declared.recurrence.Recurrence.{Recurrence}

abbrev pub length_of : Option (List ℕ) → Option Length
length_of None = None
length_of (Some text) = result_ok (duration text)

abbrev pub paired : Option ℕ → Option Length → Option Recurrence
paired None l = None
paired (Some due) None = None
paired (Some due) (Some l) = Some (record { due = due; length = l })

-- the recurrence of a recurring task, if its `due` and its `recur` can be read
unfoldable pub recurrence_of : TaskValue → Option Recurrence
recurrence_of task = cond (has_status (codes "recurring") task) (paired (moment_at (codes "due") task) (length_of (get task (codes "recur")))) None

-- the mask of a task: a character for each instance that was made
abbrev pub mask_of : TaskValue → List ℕ
mask_of task = unwrap_or (get task (codes "mask")) []

-- when instance i is due, counted from the task's own `due`
unfoldable pub due_of : Recurrence → TimeZone → ℕ → Option ℕ
due_of r tz i = added r.due r.length i tz

abbrev pub has_come : ℕ → Option ℕ → Bool
has_come now None = false
has_come now (Some at) = nat_le at now

-- whether each of the first n instances is due by now
abbrev pub are_due : Recurrence → TimeZone → ℕ → ℕ → Bool
are_due r tz now zero = true
are_due r tz now (suc n) = are_due r tz now n && has_come now (due_of r tz n)

abbrev pub up_to : Option ℕ → Option ℕ → Option ℕ
up_to until None = None
up_to None (Some at) = Some at
up_to (Some until) (Some at) = cond (nat_le at until) (Some at) None

-- when instance i is due that is to be made: so many are made beyond those that are due by now, none after `until`
unfoldable pub wanted : Recurrence → Option ℕ → TimeZone → (now limit i : ℕ) → Option ℕ
wanted r until tz now limit i = cond (nat_lt i (2 ^ 32) && are_due r tz now (i + 1 - limit)) (up_to until (due_of r tz i)) None

-- the due moment is one, and the length is of one unit
pub record IsRecurrence (r : Recurrence) : Type 0 where
  pub due : r.due < MOMENT_LIMIT
  pub length : IsOfOneUnit r.length

-- whatever the zone's clock does, all instances before one that is due at this moment are due by now
pub record IsLongPast (r : Recurrence) (now at : ℕ) : Type 0 where
  pub start : shift_of r.length ≤ r.due
  pub past : at + shift_of r.length ≤ now
  pub limit : at + shift_of r.length < MOMENT_LIMIT
