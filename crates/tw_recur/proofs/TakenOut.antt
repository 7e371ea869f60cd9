-- Taking the first of all tasks out, again and again.
use Rattle.std.proofs.Common.{◌≡◌, ℕ, ◌<◌, ◌≤◌, List, [], ◌∷◌, length, get_or, map, Option, Some, None, T, refl, sym, ap, subst, ◌∙◌, arith}
use Rattle.std.specs.Cmp.{tied_itself}
use Rattle.std.specs.Cmp.Lexicographic.{nat_list_cmp_total}
use Rattle.std.specs.FinMap.{FinMap, get, find, entries, keys, len, is_sorted, from_sorted, entries_sorted, get-entries, len-entries, entries-from_sorted, same_entries_map}
use Rattle.std.proofs.lemmas.List.{nil_from_length}
use Rattle.tw_model.specs.Maps.{bytes_cmp, set_at}
use Rattle.tw_model.specs.Ops.{TaskValue, TasksValue}
use Rattle.tw_model.specs.declared.changes.Change.{Change}
use Rattle.tw_model.proofs.Sorted.{find_found, remove_found, from_where}
use Rattle.tw_recur.specs.Instances.{made_changes}

module _ {X : Type 0} where
  -- what is left
  left_out : (m : FinMap bytes_cmp X) (e : List ℕ × X) (es : List (List ℕ × X)) → entries m ≡ e ∷ es → entries (set_at m e.0 None) ≡ es
  left_out m e es is =
      let sorted : T (is_sorted bytes_cmp (e ∷ es)) = subst (λ xs. T (is_sorted bytes_cmp xs)) is (entries_sorted m) in
      let out = from_where (e ∷ es) es e.0 sorted (remove_found e.0 (e ∷ es) 0 e sorted (omega arith) (tied_itself nat_list_cmp_total e.0)) in
      let whole : m ≡ from_sorted (e ∷ es) = same_entries_map m (from_sorted (e ∷ es)) (is ∙ sym (entries-from_sorted bytes_cmp (e ∷ es) sorted)) in
      ap (λ (n : FinMap bytes_cmp X). entries (set_at n e.0 None)) whole ∙ ap entries (sym out.set) ∙ entries-from_sorted bytes_cmp es out.sorted

  -- what is taken out
  taken_out : (m : FinMap bytes_cmp X) (e : List ℕ × X) (es : List (List ℕ × X)) → entries m ≡ e ∷ es → get m e.0 ≡ Some e.1
  taken_out m e es is =
      let sorted : T (is_sorted bytes_cmp (e ∷ es)) = subst (λ xs. T (is_sorted bytes_cmp xs)) is (entries_sorted m) in
      get-entries m e.0 ∙ ap (find bytes_cmp e.0) is ∙ find_found e.0 (e ∷ es) 0 e sorted (omega arith) (tied_itself nat_list_cmp_total e.0)

  -- a key is the first, and this is at it
  pub record IsFirst (m : FinMap bytes_cmp X) (u : List ℕ) (o : Option X) : Type 0 where
    pub value : X
    pub here : o ≡ Some value
    pub others : entries m ≡ (u, value) ∷ entries (set_at m u None)

  pub first_out : (m : FinMap bytes_cmp X) (u : List ℕ) (o : Option X) → 0 < len m → u ≡ get_or (keys m) 0 [] → o ≡ get m u → IsFirst m u o
  first_out m u o some is at = by (entries m) refl
    where
      by : (es : List (List ℕ × X)) → entries m ≡ es → IsFirst m u o
      by [] none = absurd (omega (arith, len-entries m, ap length none, some))
      by (e ∷ es) whole =
          let first : u ≡ e.0 = is ∙ ap (λ (xs : List (List ℕ × X)). get_or (map (λ x. x.0) xs) 0 []) whole in
          let left : entries (set_at m u None) ≡ es = ap (λ v. entries (set_at m v None)) first ∙ left_out m e es whole in
          record { value = e.1; here = at ∙ ap (get m) first ∙ taken_out m e es whole; others = whole ∙ (λ i. (sym first i, e.1) ∷ sym left i) }

  pub fewer_left : (m : FinMap bytes_cmp X) (u : List ℕ) (o : Option X) → 0 < len m → u ≡ get_or (keys m) 0 [] → o ≡ get m u → len (set_at m u None) < len m
  fewer_left m u o some is at = omega (arith, len-entries m, len-entries (set_at m u None), ap length (first_out m u o some is at).others)

  pub none_left : (m : FinMap bytes_cmp X) → len m ≤ 0 → entries m ≡ []
  none_left m none = nil_from_length (entries m) (omega (arith, len-entries m, none))

abbrev pub change_to : List ℕ → Option TaskValue → Change
change_to u task = record { uuid = u; task = task }

-- the changes that make tasks, if the first was taken out
pub made_first : (tasks : TasksValue) (u : List ℕ) (task : Option TaskValue) → 0 < len tasks → u ≡ get_or (keys tasks) 0 [] → task ≡ get tasks u
    → made_changes (entries tasks) ≡ change_to u task ∷ made_changes (entries (set_at tasks u None))
made_first tasks u task some is at =
    let out = first_out tasks u task some is at in
    ap made_changes out.others ∙ ap (λ (o : Option TaskValue). change_to u o ∷ made_changes (entries (set_at tasks u None))) (sym out.here)
