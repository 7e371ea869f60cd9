-- Instances of recurring tasks: task(1), under "recur".
use Rattle.std.specs.Prelude.{ℕ, zero, suc, ◌+◌, ◌-◌, cond, nat_lt, List, [], ◌∷◌, ◌++◌, take, length, chars, Option, Some, None, unwrap_or, option_map, codes}
use Rattle.std.specs.Fmt.{decimal}
use Rattle.std.specs.FinMap.{get, insert, remove, empty, entries}
use Rattle.tw_time.specs.Moments.{TimeZone}
use Rattle.sha1.specs.Sha1.{sha1}
use Rattle.uuid.specs.Parts.{with_version, with_variant}
use Rattle.uuid.specs.Text.{hyphenated_text, lower}
use Rattle.uuid.specs.declared.Version.TheVariants.{Sha1}
use Rattle.uuid.specs.declared.Variant.TheVariants.{RFC4122}
use Rattle.tw_world.specs.declared.Moment.{Moment}
use Rattle.tw_model.specs.Maps.{set_at}
use Rattle.tw_model.specs.Ops.{TaskValue, TasksValue}
use Rattle.tw_model.specs.declared.operations.Op.{Op}
use Rattle.tw_model.specs.Changes.{ops_of}
use Rattle.tw_model.specs.declared.changes.Change.{Change}
use Rattle.tw_urgency.specs.Stored.{moment_at, in_years}
use Rattle.tw_urgency.specs.Status.{status_of}
use Rattle.tw_urgency.specs.declared.Status.{Status}
use Rattle.tw_urgency.specs.declared.Status.TheVariants as status
use Rattle.tw_recur.specs.declared.recurrence.Recurrence.{Recurrence}
use Rattle.tw_recur.specs.Recurrence.{recurrence_of, mask_of, due_of, wanted}

-- the uuid of an instance: version 5, of its parent's uuid and its number
unfoldable pub instance_uuid : List ℕ → ℕ → List ℕ
instance_uuid u i = with_version (with_variant (take 16 (sha1 (u ++ decimal i))) RFC4122) Sha1

-- a moment as far from another as this one is from the base, if it is one
abbrev pub moved : (base at was : ℕ) → Option ℕ
moved base at was = cond (nat_lt (was + at) base) None (in_years (Some (was + at - base)))

-- a task with a moment of its own moved along. One that can't be read stays, one that leaves the years is left off
abbrev pub with_moved : (base at : ℕ) → List ℕ → TaskValue → Option ℕ → TaskValue
with_moved base at name m None = m
with_moved base at name m (Some was) = set_at m name (option_map decimal (moved base at was))

abbrev pub moved_in : (base at : ℕ) → List ℕ → TaskValue → TaskValue
moved_in base at name m = with_moved base at name m (moment_at name m)

-- the task of instance i of a parent, which is due at a moment
unfoldable pub instance : List ℕ → TaskValue → (now base i at : ℕ) → TaskValue
instance u task now base i at =
    moved_in base at (codes "scheduled") (moved_in base at (codes "wait")
    (insert (insert (insert (insert (insert (insert (remove task (codes "mask"))
    (codes "status") (codes "pending"))
    (codes "entry") (decimal now))
    (codes "modified") (decimal now))
    (codes "due") (decimal at))
    (codes "imask") (decimal i))
    (codes "parent") (hyphenated_text lower u)))

-- the character of an instance in its parent's mask
abbrev pub mark : Status → ℕ
mark status.Pending = 45
mark status.Waiting = 87
mark status.Completed = 45
mark status.Deleted = 45
mark status.Recurring = 45
mark status.Other = 45

-- the instances made so far, and the masks' characters for them
pub record Growth : Type 0 where
  pub made : TasksValue
  pub mask : List ℕ

-- an instance that is there stays, another one is made. The mask grows either way
abbrev pub grown_by : Option TaskValue → List ℕ → TaskValue → ℕ → Growth → Growth
grown_by None v task now g = record { made = insert g.made v task; mask = g.mask ++ mark (status_of task now) ∷ [] }
grown_by (Some there) v task now g = record { made = g.made; mask = g.mask ++ mark (status_of there now) ∷ [] }

-- what is there of a uuid in either of two
abbrev pub in_either : Option TaskValue → Option TaskValue → Option TaskValue
in_either None later = later
in_either (Some task) later = Some task

-- what is asked of all parents
pub record Asked : Type 0 where
  pub tasks : TasksValue
  pub zone : TimeZone
  pub now : ℕ
  pub limit : ℕ

-- with instance i of a parent, which is due at a moment
unfoldable pub with_instance : Asked → List ℕ → TaskValue → (base i at : ℕ) → Growth → Growth
with_instance a u task base i at g =
    grown_by (in_either (get a.tasks (instance_uuid u i)) (get g.made (instance_uuid u i))) (instance_uuid u i) (instance u task a.now base i at) a.now g

-- the moment from which the others of an instance are counted
abbrev pub base_of : Recurrence → TimeZone → ℕ
base_of r tz = unwrap_or (due_of r tz 0) r.due

abbrev pub if_wanted : Option ℕ → (ℕ → Growth) → Growth → Growth
if_wanted None next g = g
if_wanted (Some at) next g = next at

-- with the instances of a parent from number i on, at most so many
unfoldable pub grown : Asked → List ℕ → TaskValue → Recurrence → ℕ → ℕ → Growth → Growth
grown a u task r i zero g = g
grown a u task r i (suc more) g =
    if_wanted (wanted r (moment_at (codes "until") task) a.zone a.now a.limit i)
    (λ at. grown a u task r (i + 1) more (with_instance a u task (base_of r a.zone) i at g)) g

-- ---- all parents

-- the instances made, and what becomes of the parents whose masks grew
pub record Making : Type 0 where
  pub made : TasksValue
  pub parents : List Change

-- a parent with another mask
abbrev pub with_mask : TaskValue → List ℕ → ℕ → TaskValue
with_mask task mask now = insert (insert task (codes "mask") mask) (codes "modified") (decimal now)

-- a parent changes if its mask has grown
abbrev pub mask_change : List ℕ → TaskValue → ℕ → List ℕ → List Change
mask_change u task now mask = cond (nat_lt (length (mask_of task)) (length mask)) (record { uuid = u; task = Some (with_mask task mask now) } ∷ []) []

abbrev pub with_growth : List ℕ → TaskValue → ℕ → List Change → Growth → Making
with_growth u task now parents g = record { made = g.made; parents = parents ++ mask_change u task now g.mask }

abbrev pub with_recurrence : Asked → List ℕ → TaskValue → Making → Option Recurrence → Making
with_recurrence a u task m None = m
with_recurrence a u task m (Some r) =
    with_growth u task a.now m.parents (grown a u task r (length (chars (mask_of task))) 1000 (record { made = m.made; mask = mask_of task }))

-- with what a task makes, if it is a parent
unfoldable pub with_parent : Asked → List ℕ → TaskValue → Making → Making
with_parent a u task m = with_recurrence a u task m (recurrence_of task)

abbrev pub with_parents : Asked → Making → List (List ℕ × TaskValue) → Making
with_parents a m [] = m
with_parents a m (e ∷ es) = with_parents a (with_parent a e.0 e.1 m) es

-- a task that is made
abbrev pub made_change : List ℕ × TaskValue → Change
made_change e = record { uuid = e.0; task = Some e.1 }

abbrev pub made_changes : List (List ℕ × TaskValue) → List Change
made_changes [] = []
made_changes (e ∷ es) = made_change e ∷ made_changes es

abbrev pub changes_in : Making → List Change
changes_in m = made_changes (entries m.made) ++ m.parents

-- what becomes of tasks by all instances that are to be made: each instance in byte order of its uuid, and then the parents
unfoldable pub instance_changes : TasksValue → ℕ → TimeZone → ℕ → List Change
instance_changes tasks now tz limit =
    changes_in (with_parents (record { tasks = tasks; zone = tz; now = now; limit = limit }) (record { made = empty; parents = [] }) (entries tasks))

-- the operations of changes of different uuids, each of what these tasks are
abbrev pub ops_each : TasksValue → List Change → Moment → List Op
ops_each tasks [] at = []
ops_each tasks (c ∷ cs) at = ops_of tasks c at ++ ops_each tasks cs at

-- the operations of all instances that are to be made
unfoldable pub instances_of : TasksValue → Moment → TimeZone → ℕ → List Op
instances_of tasks now tz limit = ops_each tasks (instance_changes tasks now.seconds tz limit) now
