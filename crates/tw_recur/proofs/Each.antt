-- The operations of changes, one more at a time.
use Rattle.std.proofs.Common.{◌≡◌, ℕ, ◌+◌, ◌<◌, List, [], ◌∷◌, ◌++◌, take, length, get_or, sym, ap, ◌∙◌, append_assoc, append-nil}
use Rattle.std.proofs.lemmas.List.{take_more}
use Rattle.tw_world.specs.declared.Moment.{Moment}
use Rattle.tw_model.specs.Ops.{TasksValue}
use Rattle.tw_model.specs.Changes.{ops_of}
use Rattle.tw_model.specs.declared.changes.Change.{Change}
use Rattle.tw_recur.specs.Instances.{ops_each}

module _ (tasks : TasksValue) (at : Moment) where
  appended : (cs : List Change) (c : Change) → ops_each tasks (cs ++ c ∷ []) at ≡ ops_each tasks cs at ++ ops_of tasks c at
  appended [] c = append-nil (ops_of tasks c at)
  appended (d ∷ ds) c = ap (λ t. ops_of tasks d at ++ t) (appended ds c) ∙ sym (append_assoc (ops_of tasks d at) (ops_each tasks ds at) (ops_of tasks c at))

  pub one_more_change : (cs : List Change) (i : ℕ) (c : Change) → i < length cs → c ≡ get_or cs i c → ops_each tasks (take (i + 1) cs) at ≡ ops_each tasks (take i cs) at ++ ops_of tasks c at
  one_more_change cs i c lt is = ap (λ xs. ops_each tasks xs at) (take_more cs i c lt ∙ ap (λ x. take i cs ++ x ∷ []) (sym is)) ∙ appended (take i cs) c
