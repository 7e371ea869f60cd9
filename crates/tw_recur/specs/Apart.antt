-- Changes of different uuids.
use Rattle.std.specs.Prelude.{◌≡◌, ⊤, false, List, [], ◌∷◌, ℕ}
use Rattle.tw_time.specs.Moments.{TimeZone}
use Rattle.tw_world.specs.declared.Moment.{Moment}
use Rattle.tw_model.specs.Maps.{same_bytes}
use Rattle.tw_model.specs.Ops.{TasksValue}
use Rattle.tw_model.specs.Changes.{ops_of_all}
use Rattle.tw_model.specs.declared.changes.Change.{Change}
use Rattle.tw_recur.specs.Instances.{instance_changes, ops_each, instances_of}

-- changes of other uuids than this one
abbrev pub AreOthers : List ℕ → List Change → Type 0
AreOthers u [] = ⊤
AreOthers u (c ∷ cs) = (same_bytes c.uuid u ≡ false) × AreOthers u cs

-- no two changes are of one uuid
abbrev pub AreApart : List Change → Type 0
AreApart [] = ⊤
AreApart (c ∷ cs) = AreOthers c.uuid cs × AreApart cs

-- the operations of changes apart are the same, each of what the tasks are or of what those before it leave
abbrev pub EachIsAll : Type 0
EachIsAll = (tasks : TasksValue) (changes : List Change) (at : Moment) → AreApart changes → ops_each tasks changes at ≡ ops_of_all tasks changes at

-- no two changes of all instances are of one uuid
abbrev pub InstancesAreApart : Type 0
InstancesAreApart = (tasks : TasksValue) (now : ℕ) (tz : TimeZone) (limit : ℕ) → AreApart (instance_changes tasks now tz limit)

-- the operations of all instances are those of their changes, one after another
abbrev pub InstancesAreChanges : Type 0
InstancesAreChanges = (tasks : TasksValue) (at : Moment) (tz : TimeZone) (limit : ℕ)
    → instances_of tasks at tz limit ≡ ops_of_all tasks (instance_changes tasks at.seconds tz limit) at
