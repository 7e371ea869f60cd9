-- Tasks once changes of different uuids are made.
use Rattle.std.proofs.Common.{◌≡◌, ℕ, inl, inr, true, false, List, [], ◌∷◌, ◌++◌, Some, None, refl, sym, ap, subst, ◌∙◌}
use Rattle.std.specs.Prelude.{⊤}
use Rattle.std.specs.FinMap.{get, find}
use Rattle.tw_model.specs.Maps.{bytes_cmp, same_bytes}
use Rattle.tw_model.specs.Ops.{TaskValue, TasksValue}
use Rattle.tw_model.specs.Changes.{changed, changed_all}
use Rattle.tw_model.specs.declared.changes.Change.{Change}
use Rattle.tw_model.proofs.Maps.{same_bytes_exact, same_bytes_back, get-set_at_here, get-set_at_apart}
use Rattle.tw_recur.specs.Instances.{made_changes}
use Rattle.tw_recur.specs.Apart.{AreOthers, AreApart}
use Rattle.tw_recur.proofs.Once.{Entries}
use Rattle.tw_recur.proofs.Marks.{not_none}
use Rattle.tw_recur.proofs.Done.{found_by, IsAmong}

pub changed_apart : (cs : List Change) (tasks : TasksValue) (u : List ℕ) → AreOthers u cs → get (changed_all tasks cs) u ≡ get tasks u
changed_apart [] tasks u o = refl
changed_apart (c ∷ cs) tasks u o = changed_apart cs (changed tasks c) u o.1 ∙ get-set_at_apart tasks c.uuid c.task u (same_bytes_back u c.uuid ∙ o.0)

abbrev pub AreSet : TasksValue → List Change → Type 0
AreSet tasks [] = ⊤
AreSet tasks (c ∷ cs) = (get tasks c.uuid ≡ c.task) × AreSet tasks cs

pub changed_here : (cs : List Change) (tasks : TasksValue) → AreApart cs → AreSet (changed_all tasks cs) cs
changed_here [] tasks p = tt
changed_here (c ∷ cs) tasks p = (changed_apart cs (changed tasks c) c.uuid p.0 ∙ get-set_at_here tasks c.uuid c.task, changed_here cs (changed tasks c) p.1)

pub set_front : (tasks : TasksValue) (cs ds : List Change) → AreSet tasks (cs ++ ds) → AreSet tasks cs
set_front tasks [] ds s = tt
set_front tasks (c ∷ cs) ds s = (s.0, set_front tasks cs ds s.1)

pub set_back : (tasks : TasksValue) (cs ds : List Change) → AreSet tasks (cs ++ ds) → AreSet tasks ds
set_back tasks [] ds s = s
set_back tasks (c ∷ cs) ds s = set_back tasks cs ds s.1

pub set_among : (tasks : TasksValue) (c : Change) (cs : List Change) → AreSet tasks cs → IsAmong c cs → get tasks c.uuid ≡ c.task
set_among tasks c [] s i = absurd i
set_among tasks c (d ∷ cs) s i = elim i [ inl e ↦ subst (λ (x : Change). get tasks x.uuid ≡ x.task) e s.0 | inr later ↦ set_among tasks c cs s.1 later ]

pub set_found : (tasks : TasksValue) (es : Entries) (k : List ℕ) (t : TaskValue) → AreSet tasks (made_changes es) → find bytes_cmp k es ≡ Some t → get tasks k ≡ Some t
set_found tasks [] k t s is = absurd (cc)
set_found tasks (e ∷ es) k t s is =
    elim (same_bytes k e.0) as (λ x. same_bytes k e.0 ≡ x → get tasks k ≡ Some t) [
      | true ↦ λ x. ap (get tasks) (same_bytes_exact k e.0 x) ∙ s.0 ∙ sym (found_by e es k true x) ∙ is
      | false ↦ λ x. set_found tasks es k t s.1 (sym (found_by e es k false x) ∙ is)
    ] refl

pub others_unmade : (es : Entries) (cs : List Change) (k : List ℕ) → find bytes_cmp k es ≡ None → AreOthers k cs → AreOthers k (made_changes es ++ cs)
others_unmade [] cs k none o = o
others_unmade (e ∷ es) cs k none o =
    elim (same_bytes k e.0) as (λ x. same_bytes k e.0 ≡ x → AreOthers k (made_changes (e ∷ es) ++ cs)) [
      | true ↦ λ x. absurd (not_none (find bytes_cmp k (e ∷ es)) e.1 (found_by e es k true x) none)
      | false ↦ λ x. (same_bytes_back e.0 k ∙ x, others_unmade es cs k (sym (found_by e es k false x) ∙ none) o)
    ] refl
