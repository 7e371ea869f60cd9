-- What a report leaves of recurring tasks.
use Rattle.std.specs.Prelude.{◌≡◌, ◌<◌, ⊤, ℕ, ◌+◌, List, [], ◌∷◌, ◌++◌, length, chars, Option, Some, None, option_map, option_and_then, IsUtf8}
use Rattle.std.specs.FinMap.{get}
use Rattle.tw_time.specs.Moments.{TimeZone}
use Rattle.tw_model.specs.Ops.{TaskValue, TasksValue}
use Rattle.tw_model.specs.Changes.{changed_all}
use Rattle.tw_urgency.specs.Status.{status_of}
use Rattle.tw_recur.specs.declared.recurrence.Recurrence.{Recurrence}
use Rattle.tw_recur.specs.Recurrence.{recurrence_of, mask_of, due_of}
use Rattle.tw_recur.specs.Instances.{instance_uuid, instance, mark, base_of, instance_changes}

-- the tasks once all instances that are to be made are there
abbrev pub reported : TasksValue → ℕ → TimeZone → ℕ → TasksValue
reported tasks now tz limit = changed_all tasks (instance_changes tasks now tz limit)

-- ---- a second report

-- each mask is a text
abbrev pub MasksAreTexts : TasksValue → Type 0
MasksAreTexts tasks = (u : List ℕ) (task : TaskValue) → get tasks u ≡ Some task → IsUtf8 (mask_of task)

-- no mask has grown by so many characters
abbrev pub HaveGrownBelow : ℕ → (before after : TasksValue) → Type 0
HaveGrownBelow n before after =
    (u : List ℕ) (old new : TaskValue) → get before u ≡ Some old → get after u ≡ Some new → length (mask_of new) < length (mask_of old) + n

-- a second report at the same moment makes nothing, unless a template has reached its limit of instances
abbrev pub SecondMakesNothing : Type 0
SecondMakesNothing = (tasks : TasksValue) (now : ℕ) (tz : TimeZone) (limit : ℕ) → MasksAreTexts tasks → HaveGrownBelow 1000 tasks (reported tasks now tz limit)
    → instance_changes (reported tasks now tz limit) now tz limit ≡ []

-- ---- two machines

-- the task of instance i of a template, if it is one and its due moment is one: by its uuid, its map, the zone, the moment and the number alone
abbrev pub instance_of : List ℕ → TaskValue → TimeZone → (now i : ℕ) → Option TaskValue
instance_of u task tz now i =
    option_and_then (λ (r : Recurrence). option_map (λ (at : ℕ). instance u task now (base_of r tz) i at) (due_of r tz i)) (recurrence_of task)

-- a task is an instance of one of these templates. Its uuid is by the template's and the number alone
pub record IsInstanceOf (tasks : TasksValue) (tz : TimeZone) (now : ℕ) (u : List ℕ) (task : TaskValue) : Type 0 where
  pub template : List ℕ
  pub template_task : TaskValue
  pub number : ℕ
  pub there : get tasks template ≡ Some template_task
  pub uuid : u ≡ instance_uuid template number
  pub made : Some task ≡ instance_of template template_task tz now number

-- each task that is made is such an instance. So two machines that hold the same template make the same task of a number at a moment, whatever
-- else they hold, and however many each makes
abbrev pub MachinesMakeTheSame : Type 0
MachinesMakeTheSame = (tasks : TasksValue) (now : ℕ) (tz : TimeZone) (limit : ℕ) (u : List ℕ) (task : TaskValue) → get tasks u ≡ None
    → get (reported tasks now tz limit) u ≡ Some task → IsInstanceOf tasks tz now u task

-- ---- each number once

-- a character is that of instance i of a template, which is there
pub record IsMarkOf (tasks : TasksValue) (now : ℕ) (u : List ℕ) (i c : ℕ) : Type 0 where
  pub task : TaskValue
  pub there : get tasks (instance_uuid u i) ≡ Some task
  pub sign : c ≡ mark (status_of task now)

-- these characters are those of the instances from number i on
abbrev pub AreMarksFrom : TasksValue → (now : ℕ) → List ℕ → ℕ → List ℕ → Type 0
AreMarksFrom tasks now u i [] = ⊤
AreMarksFrom tasks now u i (c ∷ cs) = IsMarkOf tasks now u i c × AreMarksFrom tasks now u (i + 1) cs

-- a mask has grown by the characters of the numbers from its old length on, each of an instance that is made or was there
pub record GrowsByMarks (after : TasksValue) (now : ℕ) (u : List ℕ) (old new : TaskValue) : Type 0 where
  pub more : List ℕ
  pub mask : mask_of new ≡ mask_of old ++ more
  pub marks : AreMarksFrom after now u (length (chars (mask_of old))) more

abbrev pub EachNumberOnce : Type 0
EachNumberOnce = (tasks : TasksValue) (now : ℕ) (tz : TimeZone) (limit : ℕ) (u : List ℕ) (old new : TaskValue) → get tasks u ≡ Some old
    → get (reported tasks now tz limit) u ≡ Some new → GrowsByMarks (reported tasks now tz limit) now u old new
