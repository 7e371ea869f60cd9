-- Two task databases differ in nothing exactly if they are equal.
use Rattle.std.proofs.Common.{◌≡◌, ℕ, true, ◌&&◌, List, [], ◌∷◌, Option, Some, None, length, refl, sym, ap, subst, ◌∙◌}
use Rattle.std.specs.Prelude.{option_map}
use Rattle.std.specs.FinMap.{get, entries}
use lib.Pointwise.{pointwise}
use Rattle.tw_model.specs.Maps.{same_bytes}
use Rattle.tw_model.specs.Ops.{TaskValue, TasksValue}
use Rattle.tw_model.specs.LocalOps.{same_task, same_property}
use Rattle.tw_model.proofs.Maps.{same_bytes_exact, same_bytes_itself}
use Rattle.tw_model.proofs.LocalOps.{same_task_exact}
use Rattle.tw_audit.specs.declared.differences.What.{What}
use Rattle.tw_audit.specs.declared.differences.Difference.{Difference}
use Rattle.tw_audit.specs.Differences.{differing, least, value_at, first_value, difference_at, differs_by, difference_of, difference}
use Rattle.tw_audit.proofs.Keys.{least_none, least_all, equal_if_none, none_of_itself, all_differ}

same_lists_itself : (xs : List (List ℕ × List ℕ)) → pointwise same_property xs xs ≡ true
same_lists_itself [] = refl
same_lists_itself (x ∷ xs) =
    ap (λ b. (b && same_bytes x.1 x.1) && pointwise same_property xs xs) (same_bytes_itself x.0)
    ∙ ap (λ b. b && pointwise same_property xs xs) (same_bytes_itself x.1) ∙ same_lists_itself xs

pub same_task_itself : (m : TaskValue) → same_task m m ≡ true
same_task_itself m = same_lists_itself (entries m)

map_none : {A B : Type 0} (f : A → B) (o : Option A) → option_map f o ≡ None → o ≡ None
map_none f None e = refl
map_none f (Some a) e = cc

tasks_equal : (h t : TaskValue) → first_value h t ≡ None → h ≡ t
tasks_equal h t e = equal_if_none same_bytes same_bytes_exact same_bytes_itself h t (least_none (differing same_bytes h t) (map_none (value_at h t) (least (differing same_bytes h t)) e))

same_if_none : (h t : Option TaskValue) → difference_at h t ≡ None → h ≡ t
same_if_none None None e = refl
same_if_none None (Some t) e = cc
same_if_none (Some h) None e = cc
same_if_none (Some h) (Some t) e = ap Some (tasks_equal h t e)

module _ (here there : TasksValue) where
  at_least : (o : Option (List ℕ)) → least (differing same_task here there) ≡ o → difference_of here there o ≡ None → here ≡ there
  at_least None is e = equal_if_none same_task same_task_exact same_task_itself here there (least_none (differing same_task here there) is)
  at_least (Some u) is e =
      absurd (least_all (λ k. ¬ (get here k ≡ get there k)) (differing same_task here there) (all_differ same_task same_task_exact same_task_itself here there) u is
      (same_if_none (get here u) (get there u) (map_none (differs_by (length (differing same_task here there)) u) (difference_at (get here u) (get there u)) e)))

  pub equal_if : difference here there ≡ None → here ≡ there
  equal_if e = at_least (least (differing same_task here there)) refl e

pub none_if : (here there : TasksValue) → here ≡ there → difference here there ≡ None
none_if here there e = subst (λ t. difference here t ≡ None) e (ap (λ ks. difference_of here here (least ks)) (none_of_itself same_task same_task_exact same_task_itself here))
