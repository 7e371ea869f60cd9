-- Dependencies that a command adds, and circles that they close: task(1), `depends` under "ATTRIBUTES AND METADATA".
use Rattle.std.specs.Prelude.{ℕ, zero, suc, ◌||◌, Bool, true, false, cond, List, [], ◌∷◌, ◌++◌, Option, Some, None, IsTrue, ◌↔◌}
use Rattle.std.specs.List.{list_any}
use Rattle.std.specs.FinMap.{get, keys, len}
use Rattle.tw_model.specs.Maps.{same_bytes, set_at}
use Rattle.tw_model.specs.Ops.{TaskValue, TasksValue}
use Rattle.tw_model.specs.declared.operations.Op.{Op}
use Rattle.tw_model.specs.declared.operations.Op.TheVariants.{Update}
use Rattle.tw_urgency.specs.Dependencies.{dependency_in}
use Rattle.tw_urgency.specs.Paths.{Leads}
use Rattle.tw_words.specs.declared.command.Command.{Command}
use Rattle.tw_words.specs.declared.command.Command.TheVariants as command

-- ---- whether a path of dependencies leads from one task to another

abbrev pub leads_next : (next : List ℕ → Bool) → Option (List ℕ) → Bool
leads_next next None = false
leads_next next (Some v) = next v

-- whether one of the dependencies of a task leads on
abbrev pub leads_on : (next : List ℕ → Bool) → Option TaskValue → Bool
leads_on next None = false
leads_on next (Some task) = list_any (λ name. leads_next next (dependency_in name)) (keys task)

-- whether a path leads there that passes through each task at most once, and through so many at most
abbrev pub leads_over : ℕ → TasksValue → (u end : List ℕ) → Bool
leads_over zero tasks u end = same_bytes u end
leads_over (suc n) tasks u end = same_bytes u end || leads_on (λ v. leads_over n (set_at tasks u None) v end) (get tasks u)

-- whether a path leads from a uuid to another, or they are the same
unfoldable pub leads : TasksValue → (u end : List ℕ) → Bool
leads tasks u end = leads_over (len tasks) tasks u end

-- it is so exactly if there is such a path, of whatever length
abbrev pub LeadsWhereAPathLeads : Type 0
LeadsWhereAPathLeads = (tasks : TasksValue) (u end : List ℕ) → IsTrue (leads tasks u end) ↔ Leads tasks u end

-- ---- the dependencies that a command adds

-- a task, and what it depends on from then on
abbrev pub Gain : Type 0
Gain = List ℕ × List ℕ

abbrev pub gain_on : List ℕ → Option (List ℕ) → List Gain
gain_on u None = []
gain_on u (Some d) = (u, d) ∷ []

-- a dependency is gained where its property was absent
abbrev pub gain_by : Op → List Gain
gain_by (Update u p None (Some value) at) = gain_on u (dependency_in p)
gain_by op = []

-- what operations gain, in their order
abbrev pub gains : List Op → List Gain
gains [] = []
gains (op ∷ ops) = gain_by op ++ gains ops

-- whether what a task gains leads back to it
abbrev pub closes : TasksValue → Gain → Bool
closes tasks gain = leads tasks gain.1 gain.0

-- the dependency of the first that closes a circle
abbrev pub first_closing : TasksValue → List Gain → Option (List ℕ)
first_closing tasks [] = None
first_closing tasks (gain ∷ rest) = cond (closes tasks gain) (Some gain.1) (first_closing tasks rest)

-- the first dependency that these operations add and that closes a circle among the tasks, to which they have led
abbrev pub first_circle : TasksValue → List Op → Option (List ℕ)
first_circle tasks ops = first_closing tasks (gains ops)

-- whether circles are judged: not of what is imported, nor of the instances that a report makes
abbrev pub is_judged : Command → Bool
is_judged command.Import = false
is_judged command.List = false
is_judged command.Next = false
is_judged command.All = false
is_judged command.Completed = false
is_judged command.Waiting = false
is_judged command.Blocked = false
is_judged _ = true
