-- Going over tasks by their entries.
use Rattle.std.proofs.Common.{◌≡◌, ℕ, zero, suc, ◌<◌, List, [], ◌∷◌, length, get_or, Some, arith, subst, refl, ◌∙◌}
use Rattle.std.specs.Cmp.{tied_itself}
use Rattle.std.specs.Cmp.Lexicographic.{nat_list_cmp_total}
use Rattle.std.specs.FinMap.{get, entries, entries_sorted, get-entries}
use Rattle.tw_model.specs.Ops.{TaskValue, TasksValue}
use Rattle.tw_model.proofs.Sorted.{find_found}

-- each of the entries is one of the tasks
abbrev pub AreFound : TasksValue → List (List ℕ × TaskValue) → Type 0
AreFound tasks [] = Unit {0}
AreFound tasks (e ∷ es) = (get tasks e.0 ≡ Some e.1) × AreFound tasks es

found_each : (tasks : TasksValue) (es : List (List ℕ × TaskValue)) (d : List ℕ × TaskValue) → ((i : ℕ) → i < length es → get tasks (get_or es i d).0 ≡ Some (get_or es i d).1) → AreFound tasks es
found_each tasks [] d h = tt
found_each tasks (e ∷ es) d h = (h zero (omega arith), found_each tasks es d (λ i lt. h (suc i) (omega (arith, lt))))

pub entries_found : (tasks : TasksValue) → AreFound tasks (entries tasks)
entries_found tasks = by (entries tasks) refl
  where
    by : (es : List (List ℕ × TaskValue)) → entries tasks ≡ es → AreFound tasks es
    by [] is = tt
    by (e ∷ es) is = subst (AreFound tasks) is (found_each tasks (entries tasks) e (λ i lt. get-entries tasks (get_or (entries tasks) i e).0 ∙ find_found (get_or (entries tasks) i e).0 (entries tasks) i e (entries_sorted tasks) lt (tied_itself nat_list_cmp_total (get_or (entries tasks) i e).0)))

abbrev pub uuid_in : List ℕ × TaskValue → List ℕ
uuid_in e = e.0
