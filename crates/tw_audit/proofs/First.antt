-- What is named of two maps is the first key at which they differ.
use Rattle.std.proofs.Common.{◌≡◌, ℕ, Bool, true, false, cond, List, [], ◌∷◌, ◌++◌, Option, Some, None, length, refl, sym, ap, subst, ◌∙◌}
use Rattle.std.specs.Prelude.{is_some, option_map}
use Rattle.std.specs.List.{AllByRecursion}
use Rattle.std.specs.Option.{option_eq}
use Rattle.std.specs.Ordering.{is_lt, eq_by_cmp, ordering_reverse}
use Rattle.std.specs.declared.cmp.Ordering.{Ordering}
use Rattle.std.specs.declared.cmp.Ordering.TheVariants.{Less, Equal, Greater}
use Rattle.std.specs.Cmp.Lexicographic.{nat_list_cmp_total}
use Rattle.std.specs.FinMap.{FinMap, get, entries, find, get-entries}
use Rattle.std.proofs.lemmas.Bool.{true≢false}
use Rattle.tw_model.specs.Maps.{bytes_cmp, same_bytes}
use Rattle.tw_model.specs.Ops.{TaskValue, TasksValue}
use Rattle.tw_model.specs.LocalOps.{same_task}
use Rattle.tw_model.proofs.Maps.{bytes_exact, same_bytes_exact, same_bytes_itself}
use Rattle.tw_model.proofs.LocalOps.{same_task_exact}
use Rattle.tw_audit.specs.declared.differences.What.{What}
use Rattle.tw_audit.specs.declared.differences.What.TheVariants.{OnlyHere, OnlyThere, Value}
use Rattle.tw_audit.specs.declared.differences.Difference.{Difference}
use Rattle.tw_audit.specs.Differences.{unlike, lacking, differing, lesser, least, value_at, first_value, difference_at, differs_by, difference_of, difference}
use Rattle.tw_audit.specs.Laws.{IsFirstKey, DifferenceIsFirst, ValueIsFirst}
use Rattle.tw_audit.proofs.Keys.{key_exact, key_itself, some_is, least_none, least_all, same_option, all_differ}
use Rattle.tw_audit.proofs.Differing.{same_task_itself}

-- ---- the least of some keys

less_is : (r : Ordering) → is_lt r ≡ true → r ≡ Less
less_is Less e = refl
less_is Equal e = cc
less_is Greater e = cc

not_less : (r : Ordering) → is_lt r ≡ false → r ≡ Less → ⊥
not_less r e less = true≢false (ap is_lt (sym less) ∙ e)

not_before_itself : (k : List ℕ) → ¬ (bytes_cmp k k ≡ Less)
not_before_itself k less = equal_is_not_less (sym (key_itself k) ∙ less)
  where
    equal_is_not_less : Equal ≡ Less → ⊥
    equal_is_not_less e = cc

not_before : (j n k : List ℕ) (r : Ordering) → bytes_cmp n k ≡ r → ¬ (bytes_cmp j n ≡ Less) → ¬ (r ≡ Less) → ¬ (bytes_cmp j k ≡ Less)
not_before j n k Less is apart other less = other refl
not_before j n k Equal is apart other less = apart (subst (λ x. bytes_cmp j x ≡ Less) (sym (bytes_exact n k is)) less)
not_before j n k Greater is apart other less = apart (nat_list_cmp_total.trans j k n less (nat_list_cmp_total.antisymm k n ∙ ap ordering_reverse is))

each_not_before : (n k : List ℕ) (ks : List (List ℕ)) → ¬ (bytes_cmp n k ≡ Less) → AllByRecursion (λ j. ¬ (bytes_cmp j n ≡ Less)) ks → AllByRecursion (λ j. ¬ (bytes_cmp j k ≡ Less)) ks
each_not_before n k [] other all = tt
each_not_before n k (j ∷ ks) other all = (not_before j n k (bytes_cmp n k) refl all.0 other, each_not_before n k ks other all.1)

none_before_pick : (k n : List ℕ) (ks : List (List ℕ)) (b : Bool) → is_lt (bytes_cmp n k) ≡ b → AllByRecursion (λ j. ¬ (bytes_cmp j n ≡ Less)) ks → AllByRecursion (λ j. ¬ (bytes_cmp j (cond b n k) ≡ Less)) (k ∷ ks)
none_before_pick k n ks true is all = ((λ less. not_before_itself k (nat_list_cmp_total.trans k n k less (less_is (bytes_cmp n k) is))), all)
none_before_pick k n ks false is all = (not_before_itself k, each_not_before n k ks (not_less (bytes_cmp n k) is) all)

none_before_lesser : (k : List ℕ) (ks : List (List ℕ)) (o : Option (List ℕ)) → least ks ≡ o → ((n : List ℕ) → least ks ≡ Some n → AllByRecursion (λ j. ¬ (bytes_cmp j n ≡ Less)) ks) → AllByRecursion (λ j. ¬ (bytes_cmp j (lesser k o) ≡ Less)) (k ∷ ks)
none_before_lesser k ks None is all = (not_before_itself k, subst (λ js. AllByRecursion (λ j. ¬ (bytes_cmp j k ≡ Less)) js) (sym (least_none ks is)) tt)
none_before_lesser k ks (Some n) is all = none_before_pick k n ks (is_lt (bytes_cmp n k)) refl (all n is)

none_before_least : (ks : List (List ℕ)) (m : List ℕ) → least ks ≡ Some m → AllByRecursion (λ j. ¬ (bytes_cmp j m ≡ Less)) ks
none_before_least [] m e = tt
none_before_least (k ∷ ks) m e = subst (λ x. AllByRecursion (λ j. ¬ (bytes_cmp j x ≡ Less)) (k ∷ ks)) (some_is (lesser k (least ks)) m e) (none_before_lesser k ks (least ks) refl (none_before_least ks))

-- a key before it is none of them
misses : (k m : List ℕ) (ks : List (List ℕ)) → bytes_cmp k m ≡ Less → AllByRecursion (λ j. ¬ (bytes_cmp j m ≡ Less)) ks → AllByRecursion (λ j. ¬ (k ≡ j)) ks
misses k m [] less all = tt
misses k m (j ∷ ks) less all = ((λ same. all.0 (subst (λ x. bytes_cmp x m ≡ Less) same less)), misses k m ks less all.1)

front_of : (P : List ℕ → Type 0) (xs ys : List (List ℕ)) → AllByRecursion P (xs ++ ys) → AllByRecursion P xs
front_of P [] ys all = tt
front_of P (x ∷ xs) ys all = (all.0, front_of P xs ys all.1)

back_of : (P : List ℕ → Type 0) (xs ys : List (List ℕ)) → AllByRecursion P (xs ++ ys) → AllByRecursion P ys
back_of P [] ys all = all
back_of P (x ∷ xs) ys all = back_of P xs ys all.1

-- ---- at a key that is none of them both are the same

module _ {X : Type 0} (same : X → X → Bool) (exact : (a b : X) → same a b ≡ true → a ≡ b) (itself : (a : X) → same a a ≡ true) where
  alike_step : (others : FinMap bytes_cmp X) (e : List ℕ × X) (es : List (List ℕ × X)) (k : List ℕ) (x : X) (b c : Bool) → option_eq same (get others e.0) (Some e.1) ≡ b → eq_by_cmp bytes_cmp k e.0 ≡ c
      → (AllByRecursion (λ j. ¬ (k ≡ j)) (unlike same others es) → find bytes_cmp k es ≡ Some x → get others k ≡ Some x)
      → AllByRecursion (λ j. ¬ (k ≡ j)) (cond b (unlike same others es) (e.0 ∷ unlike same others es)) → cond c (Some e.1) (find bytes_cmp k es) ≡ Some x → get others k ≡ Some x
  alike_step others e es k x false true is key rest none found = absurd (none.0 (key_exact k e.0 key))
  alike_step others e es k x false false is key rest none found = rest none.1 found
  alike_step others e es k x true true is key rest none found = ap (get others) (key_exact k e.0 key) ∙ same_option same exact itself (get others e.0) e.1 is ∙ found
  alike_step others e es k x true false is key rest none found = rest none found

  alike_found : (others : FinMap bytes_cmp X) (es : List (List ℕ × X)) (k : List ℕ) (x : X) → AllByRecursion (λ j. ¬ (k ≡ j)) (unlike same others es) → find bytes_cmp k es ≡ Some x → get others k ≡ Some x
  alike_found others [] k x none found = cc
  alike_found others (e ∷ es) k x none found = alike_step others e es k x (option_eq same (get others e.0) (Some e.1)) (eq_by_cmp bytes_cmp k e.0) refl refl (alike_found others es k x) none found

  known_step : (others : FinMap bytes_cmp X) (e : List ℕ × X) (es : List (List ℕ × X)) (k : List ℕ) (x : X) (b c : Bool) → is_some (get others e.0) ≡ b → eq_by_cmp bytes_cmp k e.0 ≡ c
      → (AllByRecursion (λ j. ¬ (k ≡ j)) (lacking others es) → find bytes_cmp k es ≡ Some x → is_some (get others k) ≡ true)
      → AllByRecursion (λ j. ¬ (k ≡ j)) (cond b (lacking others es) (e.0 ∷ lacking others es)) → cond c (Some e.1) (find bytes_cmp k es) ≡ Some x → is_some (get others k) ≡ true
  known_step others e es k x false true is key rest none found = absurd (none.0 (key_exact k e.0 key))
  known_step others e es k x false false is key rest none found = rest none.1 found
  known_step others e es k x true true is key rest none found = ap (λ j. is_some (get others j)) (key_exact k e.0 key) ∙ is
  known_step others e es k x true false is key rest none found = rest none found

  known_found : (others : FinMap bytes_cmp X) (es : List (List ℕ × X)) (k : List ℕ) (x : X) → AllByRecursion (λ j. ¬ (k ≡ j)) (lacking others es) → find bytes_cmp k es ≡ Some x → is_some (get others k) ≡ true
  known_found others [] k x none found = cc
  known_found others (e ∷ es) k x none found = known_step others e es k x (is_some (get others e.0)) (eq_by_cmp bytes_cmp k e.0) refl refl (known_found others es k x) none found

  module _ (here there : FinMap bytes_cmp X) where
    same_at : (k : List ℕ) → AllByRecursion (λ j. ¬ (k ≡ j)) (differing same here there) → (p q : Option X) → find bytes_cmp k (entries here) ≡ p → find bytes_cmp k (entries there) ≡ q → get here k ≡ get there k
    same_at k none (Some x) q at other =
        get-entries here k ∙ at ∙ sym (alike_found there (entries here) k x (front_of (λ j. ¬ (k ≡ j)) (unlike same there (entries here)) (lacking here (entries there)) none) at)
    same_at k none None None at other = get-entries here k ∙ at ∙ sym other ∙ sym (get-entries there k)
    same_at k none None (Some y) at other =
        absurd (true≢false (sym (known_found here (entries there) k y (back_of (λ j. ¬ (k ≡ j)) (unlike same there (entries here)) (lacking here (entries there)) none) other) ∙ ap is_some (get-entries here k ∙ at)))

    pub least_is_first : (m : List ℕ) → least (differing same here there) ≡ Some m → IsFirstKey here there m
    least_is_first m e = record {
      differs = least_all (λ k. ¬ (get here k ≡ get there k)) (differing same here there) (all_differ same exact itself here there) m e;
      before = λ k less. same_at k (misses k m (differing same here there) less (none_before_least (differing same here there) m e)) (find bytes_cmp k (entries here)) (find bytes_cmp k (entries there)) refl refl;
    }

-- ---- of tasks

pub value_is_first : ValueIsFirst
value_is_first here there property a b e = at (least (differing same_bytes here there)) refl e
  where
    named : (name : List ℕ) → Some (value_at here there name) ≡ Some (Value property a b) → name ≡ property
    named name is = cc

    at : (o : Option (List ℕ)) → least (differing same_bytes here there) ≡ o → option_map (value_at here there) o ≡ Some (Value property a b) → IsFirstKey here there property
    at None is e = cc
    at (Some name) is e = subst (IsFirstKey here there) (named name e) (least_is_first same_bytes same_bytes_exact same_bytes_itself here there name is)

pub difference_is_first : DifferenceIsFirst
difference_is_first here there found e = at (least (differing same_task here there)) refl e
  where
    named : (u : List ℕ) (o : Option What) → option_map (differs_by (length (differing same_task here there)) u) o ≡ Some found → u ≡ found.uuid
    named u None is = cc
    named u (Some what) is = ap (λ d. d.uuid) (some_is (differs_by (length (differing same_task here there)) u what) found is)

    at : (o : Option (List ℕ)) → least (differing same_task here there) ≡ o → difference_of here there o ≡ Some found → IsFirstKey here there found.uuid
    at None is e = cc
    at (Some u) is e = subst (IsFirstKey here there) (named u (difference_at (get here u) (get there u)) e) (least_is_first same_task same_task_exact same_task_itself here there u is)
