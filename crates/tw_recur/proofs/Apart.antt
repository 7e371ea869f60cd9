-- Operations of changes of different uuids.
use Rattle.std.proofs.Common.{◌≡◌, ℕ, List, [], ◌∷◌, ◌++◌, Option, refl, sym, ◌∙◌}
use Rattle.std.specs.Prelude.{⊤}
use Rattle.std.specs.FinMap.{get}
use Rattle.tw_world.specs.declared.Moment.{Moment}
use Rattle.tw_model.specs.Maps.{set_at}
use Rattle.tw_model.specs.Ops.{TaskValue, TasksValue}
use Rattle.tw_model.proofs.Maps.{get-set_at_apart}
use Rattle.tw_model.specs.Changes.{change_ops, changed, ops_of_all}
use Rattle.tw_model.specs.declared.changes.Change.{Change}
use Rattle.tw_recur.specs.Instances.{ops_each}
use Rattle.tw_recur.specs.Apart.{AreOthers, AreApart, EachIsAll}

-- tasks that are the same at the uuids of changes
abbrev Alike : (a b : TasksValue) → List Change → Type 0
Alike a b [] = ⊤
Alike a b (c ∷ cs) = (get a c.uuid ≡ get b c.uuid) × Alike a b cs

itself : (a : TasksValue) (cs : List Change) → Alike a a cs
itself a [] = tt
itself a (c ∷ cs) = (refl, itself a cs)

still : (a b : TasksValue) (u : List ℕ) (x : Option TaskValue) (cs : List Change) → AreOthers u cs → Alike a b cs → Alike a (set_at b u x) cs
still a b u x [] o al = tt
still a b u x (d ∷ ds) o al = (al.0 ∙ sym (get-set_at_apart b u x d.uuid o.0), still a b u x ds o.1 al.1)

alike : (a b : TasksValue) (cs : List Change) (at : Moment) → AreApart cs → Alike a b cs → ops_each a cs at ≡ ops_of_all b cs at
alike a b [] at p al = refl
alike a b (c ∷ cs) at p al = λ n. change_ops c.uuid (al.0 n) c.task at ++ alike a (changed b c) cs at p.1 (still a b c.uuid c.task cs p.0 al.1) n

pub each_is_all : EachIsAll
each_is_all tasks cs at p = alike tasks tasks cs at p (itself tasks cs)
