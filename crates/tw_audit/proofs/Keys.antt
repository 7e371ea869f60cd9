-- The keys at which two maps differ: there are none exactly if the maps are equal, and at each of them they do.
use Rattle.std.proofs.Common.{◌≡◌, ℕ, suc, ◌<◌, Bool, true, false, cond, T, length, get_or, List, [], ◌∷◌, ◌++◌, Option, Some, None, refl, sym, ap, subst, ◌∙◌, arith, append_assoc}
use Rattle.std.specs.Prelude.{is_some}
use Rattle.std.specs.List.{AllByRecursion}
use Rattle.std.specs.Option.{option_eq}
use Rattle.std.specs.Ordering.{is_lt, is_eq, eq_by_cmp}
use Rattle.std.specs.declared.cmp.Ordering.{Ordering}
use Rattle.std.specs.declared.cmp.Ordering.TheVariants.{Less, Equal, Greater}
use Rattle.std.specs.Cmp.Lexicographic.{texts_ties}
use Rattle.std.specs.FinMap.{FinMap, get, entries, entries_sorted, find, is_sorted, get-entries}
use Rattle.std.proofs.lemmas.Bool.{true≢false}
use Rattle.tw_model.specs.Maps.{bytes_cmp, same_bytes}
use Rattle.tw_model.proofs.Maps.{same_maps, bytes_exact, same_bytes_itself}
use Rattle.tw_model.proofs.Sorted.{find_found}
use Rattle.tw_sync.proofs.Hearing.{all-append}
use Rattle.tw_audit.specs.Differences.{unlike, lacking, differing, lesser, least}

tied : (r : Ordering) → is_eq r ≡ true → r ≡ Equal
tied Less e = cc
tied Equal e = refl
tied Greater e = cc

pub key_exact : (a b : List ℕ) → eq_by_cmp bytes_cmp a b ≡ true → a ≡ b
key_exact a b e = bytes_exact a b (tied (bytes_cmp a b) e)

pub key_itself : (a : List ℕ) → bytes_cmp a a ≡ Equal
key_itself a = tied (bytes_cmp a a) (sym (texts_ties a a) ∙ same_bytes_itself a)

none_first : (xs ys : List (List ℕ)) → xs ++ ys ≡ [] → xs ≡ []
none_first [] ys e = refl
none_first (x ∷ xs) ys e = cc

none_second : (xs ys : List (List ℕ)) → xs ++ ys ≡ [] → ys ≡ []
none_second [] ys e = e
none_second (x ∷ xs) ys e = cc

no_key : (k : List ℕ) (ks : List (List ℕ)) → k ∷ ks ≡ [] → ⊥
no_key k ks e = cc

-- ---- the first of some keys

pub least_none : (ks : List (List ℕ)) → least ks ≡ None → ks ≡ []
least_none [] e = refl
least_none (k ∷ ks) e = cc

lesser_is : (P : List ℕ → Type 0) (b : Bool) (j k : List ℕ) → P j → P k → P (cond b j k)
lesser_is P true j k p q = p
lesser_is P false j k p q = q

lesser_all : (P : List ℕ → Type 0) (k : List ℕ) (o : Option (List ℕ)) → P k → ((j : List ℕ) → o ≡ Some j → P j) → P (lesser k o)
lesser_all P k None p q = p
lesser_all P k (Some j) p q = lesser_is P (is_lt (bytes_cmp j k)) j k (q j refl) p

pub some_is : {A : Type 0} (a b : A) → Some a ≡ Some b → a ≡ b
some_is a b e = cc

pub least_all : (P : List ℕ → Type 0) (ks : List (List ℕ)) → AllByRecursion P ks → (k : List ℕ) → least ks ≡ Some k → P k
least_all P [] all k e = cc
least_all P (j ∷ ks) all k e = subst P (some_is (lesser j (least ks)) k e) (lesser_all P j (least ks) all.0 (least_all P ks all.1))

-- ---- entries

module _ {X : Type 0} where
  by_index : (P : List ℕ × X → Type 0) (d : List ℕ × X) (es : List (List ℕ × X)) → ((i : ℕ) → i < length es → P (get_or es i d)) → AllByRecursion P es
  by_index P d [] f = tt
  by_index P d (e ∷ es) f = (f 0 (omega arith), by_index P d es (λ i lt. f (suc i) (omega (arith, lt))))

  sorted_found : (es : List (List ℕ × X)) → T (is_sorted bytes_cmp es) → AllByRecursion (λ e. find bytes_cmp e.0 es ≡ Some e.1) es
  sorted_found [] s = tt
  sorted_found (e ∷ es) s = by_index (λ f. find bytes_cmp f.0 (e ∷ es) ≡ Some f.1) e (e ∷ es) (λ i lt. find_found (get_or (e ∷ es) i e).0 (e ∷ es) i e s lt (key_itself (get_or (e ∷ es) i e).0))

  all_to : (P Q : List ℕ × X → Type 0) (es : List (List ℕ × X)) → ((e : List ℕ × X) → P e → Q e) → AllByRecursion P es → AllByRecursion Q es
  all_to P Q [] f all = tt
  all_to P Q (e ∷ es) f all = (f e all.0, all_to P Q es f all.1)

  entries_there : (m : FinMap bytes_cmp X) → AllByRecursion (λ e. get m e.0 ≡ Some e.1) (entries m)
  entries_there m = all_to (λ e. find bytes_cmp e.0 (entries m) ≡ Some e.1) (λ e. get m e.0 ≡ Some e.1) (entries m) (λ e found. get-entries m e.0 ∙ found) (sorted_found (entries m) (entries_sorted m))

-- ---- differing keys

module _ {X : Type 0} (same : X → X → Bool) (exact : (a b : X) → same a b ≡ true → a ≡ b) (itself : (a : X) → same a a ≡ true) where
  pub same_option : (o : Option X) (x : X) → option_eq same o (Some x) ≡ true → o ≡ Some x
  same_option None x e = cc
  same_option (Some y) x e = ap Some (exact y x e)

  alike_step : (others : FinMap bytes_cmp X) (e : List ℕ × X) (es : List (List ℕ × X)) (k : List ℕ) (x : X) (b c : Bool) → option_eq same (get others e.0) (Some e.1) ≡ b → eq_by_cmp bytes_cmp k e.0 ≡ c → (unlike same others es ≡ [] → find bytes_cmp k es ≡ Some x → get others k ≡ Some x)
      → cond b (unlike same others es) (e.0 ∷ unlike same others es) ≡ [] → cond c (Some e.1) (find bytes_cmp k es) ≡ Some x → get others k ≡ Some x
  alike_step others e es k x false c is key rest none found = absurd (no_key e.0 (unlike same others es) none)
  alike_step others e es k x true true is key rest none found = ap (get others) (key_exact k e.0 key) ∙ same_option (get others e.0) e.1 is ∙ found
  alike_step others e es k x true false is key rest none found = rest none found

  alike_found : (others : FinMap bytes_cmp X) (es : List (List ℕ × X)) (k : List ℕ) (x : X) → unlike same others es ≡ [] → find bytes_cmp k es ≡ Some x → get others k ≡ Some x
  alike_found others [] k x none found = cc
  alike_found others (e ∷ es) k x none found = alike_step others e es k x (option_eq same (get others e.0) (Some e.1)) (eq_by_cmp bytes_cmp k e.0) refl refl (alike_found others es k x) none found

  known_step : (others : FinMap bytes_cmp X) (e : List ℕ × X) (es : List (List ℕ × X)) (k : List ℕ) (x : X) (b c : Bool) → is_some (get others e.0) ≡ b → eq_by_cmp bytes_cmp k e.0 ≡ c → (lacking others es ≡ [] → find bytes_cmp k es ≡ Some x → is_some (get others k) ≡ true)
      → cond b (lacking others es) (e.0 ∷ lacking others es) ≡ [] → cond c (Some e.1) (find bytes_cmp k es) ≡ Some x → is_some (get others k) ≡ true
  known_step others e es k x false c is key rest none found = absurd (no_key e.0 (lacking others es) none)
  known_step others e es k x true true is key rest none found = ap (λ j. is_some (get others j)) (key_exact k e.0 key) ∙ is
  known_step others e es k x true false is key rest none found = rest none found

  known_found : (others : FinMap bytes_cmp X) (es : List (List ℕ × X)) (k : List ℕ) (x : X) → lacking others es ≡ [] → find bytes_cmp k es ≡ Some x → is_some (get others k) ≡ true
  known_found others [] k x none found = cc
  known_found others (e ∷ es) k x none found = known_step others e es k x (is_some (get others e.0)) (eq_by_cmp bytes_cmp k e.0) refl refl (known_found others es k x) none found

  module _ (here there : FinMap bytes_cmp X) where
    same_at : differing same here there ≡ [] → (k : List ℕ) (p q : Option X) → find bytes_cmp k (entries here) ≡ p → find bytes_cmp k (entries there) ≡ q → get here k ≡ get there k
    same_at none k (Some x) q at other =
        get-entries here k ∙ at ∙ sym (alike_found there (entries here) k x (none_first (unlike same there (entries here)) (lacking here (entries there)) none) at)
    same_at none k None None at other = get-entries here k ∙ at ∙ sym other ∙ sym (get-entries there k)
    same_at none k None (Some y) at other =
        absurd (true≢false (sym (known_found here (entries there) k y (none_second (unlike same there (entries here)) (lacking here (entries there)) none) other) ∙ ap is_some (get-entries here k ∙ at)))

    pub equal_if_none : differing same here there ≡ [] → here ≡ there
    equal_if_none none = same_maps here there (λ k. same_at none k (find bytes_cmp k (entries here)) (find bytes_cmp k (entries there)) refl refl)

  unlike_itself : (m : FinMap bytes_cmp X) (es : List (List ℕ × X)) → AllByRecursion (λ e. get m e.0 ≡ Some e.1) es → unlike same m es ≡ []
  unlike_itself m [] all = refl
  unlike_itself m (e ∷ es) all = ap (λ b. cond b (unlike same m es) (e.0 ∷ unlike same m es)) (ap (λ o. option_eq same o (Some e.1)) all.0 ∙ itself e.1) ∙ unlike_itself m es all.1

  lacking_itself : (m : FinMap bytes_cmp X) (es : List (List ℕ × X)) → AllByRecursion (λ e. get m e.0 ≡ Some e.1) es → lacking m es ≡ []
  lacking_itself m [] all = refl
  lacking_itself m (e ∷ es) all = ap (λ b. cond b (lacking m es) (e.0 ∷ lacking m es)) (ap is_some all.0) ∙ lacking_itself m es all.1

  pub none_of_itself : (m : FinMap bytes_cmp X) → differing same m m ≡ []
  none_of_itself m = ap (λ ks. ks ++ lacking m (entries m)) (unlike_itself m (entries m) (entries_there m)) ∙ lacking_itself m (entries m) (entries_there m)

  module _ (here there : FinMap bytes_cmp X) where
    unlike_step : (e : List ℕ × X) (es : List (List ℕ × X)) (b : Bool) → option_eq same (get there e.0) (Some e.1) ≡ b → get here e.0 ≡ Some e.1 → AllByRecursion (λ k. ¬ (get here k ≡ get there k)) (unlike same there es)
        → AllByRecursion (λ k. ¬ (get here k ≡ get there k)) (cond b (unlike same there es) (e.0 ∷ unlike same there es))
    unlike_step e es true is at rest = rest
    unlike_step e es false is at rest = (λ eq. true≢false (sym (ap (λ o. option_eq same o (Some e.1)) (sym eq ∙ at) ∙ itself e.1) ∙ is), rest)

    unlike_differ : (es : List (List ℕ × X)) → AllByRecursion (λ e. get here e.0 ≡ Some e.1) es → AllByRecursion (λ k. ¬ (get here k ≡ get there k)) (unlike same there es)
    unlike_differ [] all = tt
    unlike_differ (e ∷ es) all = unlike_step e es (option_eq same (get there e.0) (Some e.1)) refl all.0 (unlike_differ es all.1)

    lacking_step : (e : List ℕ × X) (es : List (List ℕ × X)) (b : Bool) → is_some (get here e.0) ≡ b → get there e.0 ≡ Some e.1 → AllByRecursion (λ k. ¬ (get here k ≡ get there k)) (lacking here es)
        → AllByRecursion (λ k. ¬ (get here k ≡ get there k)) (cond b (lacking here es) (e.0 ∷ lacking here es))
    lacking_step e es true is at rest = rest
    lacking_step e es false is at rest = (λ eq. true≢false (sym (ap is_some (eq ∙ at)) ∙ is), rest)

    lacking_differ : (es : List (List ℕ × X)) → AllByRecursion (λ e. get there e.0 ≡ Some e.1) es → AllByRecursion (λ k. ¬ (get here k ≡ get there k)) (lacking here es)
    lacking_differ [] all = tt
    lacking_differ (e ∷ es) all = lacking_step e es (is_some (get here e.0)) refl all.0 (lacking_differ es all.1)

    pub all_differ : AllByRecursion (λ k. ¬ (get here k ≡ get there k)) (differing same here there)
    all_differ = all-append (λ k. ¬ (get here k ≡ get there k)) (unlike same there (entries here)) (lacking here (entries there)) (unlike_differ (entries here) (entries_there here)) (lacking_differ (entries there) (entries_there there))

-- ---- one entry more

kept_or_put : (b : Bool) (xs ks : List (List ℕ)) (k : List ℕ) → (xs ++ cond b [] (k ∷ [])) ++ ks ≡ xs ++ cond b ks (k ∷ ks)
kept_or_put true xs ks k = append_assoc xs [] ks
kept_or_put false xs ks k = append_assoc xs (k ∷ []) ks

module _ {X : Type 0} (others : FinMap bytes_cmp X) (xs : List (List ℕ)) (e : List ℕ × X) (es : List (List ℕ × X)) where
  pub unlike_turn : (same : X → X → Bool) → (xs ++ cond (option_eq same (get others e.0) (Some e.1)) [] (e.0 ∷ [])) ++ unlike same others es ≡ xs ++ unlike same others (e ∷ es)
  unlike_turn same = kept_or_put (option_eq same (get others e.0) (Some e.1)) xs (unlike same others es) e.0

  pub lacking_turn : (xs ++ cond (is_some (get others e.0)) [] (e.0 ∷ [])) ++ lacking others es ≡ xs ++ lacking others (e ∷ es)
  lacking_turn = kept_or_put (is_some (get others e.0)) xs (lacking others es) e.0
