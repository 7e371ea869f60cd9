-- The entries of some keys, found one after another, are those entries whose keys are among them.
use Rattle.std.proofs.Common.{◌≡◌, Bool, true, false, cond, ◌&&◌, ◌||◌, ℕ, List, [], ◌∷◌, map, filter, Option, Some, None, is_some, refl, sym, ap, subst, ◌∙◌, T}
use Rattle.std.specs.List.{AllByRecursion, list_any}
use Rattle.std.specs.List.Sorted.{IsStrictlySortedBy}
use Rattle.std.proofs.lemmas.Map.Keys.{sorted_head, sorted_tail}
use Rattle.std.specs.declared.cmp.Ordering.{Ordering}
use Rattle.std.specs.declared.cmp.Ordering.TheVariants.{Less, Equal, Greater}
use Rattle.std.specs.Ordering.{is_lt, is_eq, eq_by_cmp}
use Rattle.std.specs.Cmp.Lexicographic.{nat_list_cmp_total}
use Rattle.std.specs.FinMap.{FinMap, get, entries, keys, entries_sorted, get-entries}
use Rattle.std.specs.FinMap.Entries.{find, is_sorted, below_all, where_key, is_sorted-where_key, find-where_key, same_entries}
use Rattle.tw_model.specs.Maps.{bytes_cmp}
use Rattle.tw_model.proofs.Maps.{bytes_exact}

both : (a b : Bool) → T a → T b → T (a && b)
both true b p q = q
both false b p q = absurd p

tied : (r : Ordering) → is_eq r ≡ true → r ≡ Equal
tied Less e = cc
tied Equal e = refl
tied Greater e = cc

module _ {X : Type 0} where
  abbrev pub found_with : List ℕ → Option X → List (List ℕ × X) → List (List ℕ × X)
  found_with u None rest = rest
  found_with u (Some x) rest = (u, x) ∷ rest

  -- the entries of these keys, if they are there
  abbrev pub found : FinMap bytes_cmp X → List (List ℕ) → List (List ℕ × X)
  found m [] = []
  found m (u ∷ us) = found_with u (get m u) (found m us)

  below_found : (m : FinMap bytes_cmp X) (k : List ℕ) (us : List (List ℕ)) → AllByRecursion (λ y. bytes_cmp k y ≡ Less) us → T (below_all bytes_cmp k (found m us))
  below_found m k [] h = tt
  below_found m k (u ∷ us) h = by (get m u) (below_found m k us h.1)
    where
      by : (o : Option X) → T (below_all bytes_cmp k (found m us)) → T (below_all bytes_cmp k (found_with u o (found m us)))
      by None rest = rest
      by (Some x) rest = both _ _ (subst (λ r. T (is_lt r)) (sym h.0) tt) rest

  sorted_found : (m : FinMap bytes_cmp X) (us : List (List ℕ)) → IsStrictlySortedBy bytes_cmp us → T (is_sorted bytes_cmp (found m us))
  sorted_found m [] h = tt
  sorted_found m (u ∷ us) h = by (get m u) (sorted_found m us (sorted_tail bytes_cmp u us h))
    where
      by : (o : Option X) → T (is_sorted bytes_cmp (found m us)) → T (is_sorted bytes_cmp (found_with u o (found m us)))
      by None rest = rest
      by (Some x) rest = both _ _ (below_found m u us (sorted_head bytes_cmp u us h)) rest

  -- what is not there is not found, whether it is asked for or not
  absent : (b : Bool) (o : Option X) → o ≡ None → cond b o None ≡ None
  absent true o e = e
  absent false o e = refl

  find-found : (m : FinMap bytes_cmp X) (us : List (List ℕ)) (q : List ℕ) → find bytes_cmp q (found m us) ≡ cond (list_any (eq_by_cmp bytes_cmp q) us) (get m q) None
  find-found m [] q = refl
  find-found m (u ∷ us) q = by (eq_by_cmp bytes_cmp q u) refl (get m u) refl (find-found m us q)
    where
      by : (b : Bool) → eq_by_cmp bytes_cmp q u ≡ b → (o : Option X) → get m u ≡ o → find bytes_cmp q (found m us) ≡ cond (list_any (eq_by_cmp bytes_cmp q) us) (get m q) None
          → find bytes_cmp q (found_with u o (found m us)) ≡ cond (b || list_any (eq_by_cmp bytes_cmp q) us) (get m q) None
      by true e (Some x) is rest = ap (λ b. cond b (Some x) (find bytes_cmp q (found m us))) e ∙ sym (ap (get m) (bytes_exact q u (tied _ e)) ∙ is)
      by true e None is rest = let here : get m q ≡ None = ap (get m) (bytes_exact q u (tied _ e)) ∙ is in rest ∙ absent _ _ here ∙ sym here
      by false e (Some x) is rest = ap (λ b. cond b (Some x) (find bytes_cmp q (found m us))) e ∙ rest
      by false e None is rest = rest

  -- keys that rise, of which those that are there pass a test and no others that are there do
  pub found_where : (m : FinMap bytes_cmp X) (p : List ℕ → Bool) (us : List (List ℕ)) → IsStrictlySortedBy bytes_cmp us → ((q : List ℕ) (x : X) → get m q ≡ Some x → list_any (eq_by_cmp bytes_cmp q) us ≡ p q) → found m us ≡ where_key bytes_cmp p (entries m)
  found_where m p us rising same =
      same_entries bytes_cmp nat_list_cmp_total bytes_exact (found m us) (where_key bytes_cmp p (entries m)) (sorted_found m us rising) (is_sorted-where_key bytes_cmp p (entries m) (entries_sorted m)) (λ q.
      find-found m us q ∙ by q (get m q) refl ∙ ap (λ o. cond (p q) o None) (get-entries m q) ∙ sym (find-where_key bytes_cmp p q (λ x t. ap p (sym (bytes_exact q x t))) (entries m)))
    where
      by : (q : List ℕ) (o : Option X) → get m q ≡ o → cond (list_any (eq_by_cmp bytes_cmp q) us) (get m q) None ≡ cond (p q) (get m q) None
      by q None is = absent _ _ is ∙ sym (absent _ _ is)
      by q (Some x) is = ap (λ b. cond b (get m q) None) (same q x is)

  keys_found : (m : FinMap bytes_cmp X) (us : List (List ℕ)) → filter (λ u. is_some (get m u)) us ≡ map (λ (e : List ℕ × X). e.0) (found m us)
  keys_found m [] = refl
  keys_found m (u ∷ us) = by (get m u) (keys_found m us)
    where
      by : (o : Option X) → filter (λ v. is_some (get m v)) us ≡ map (λ (e : List ℕ × X). e.0) (found m us) → cond (is_some o) (u ∷ filter (λ v. is_some (get m v)) us) (filter (λ v. is_some (get m v)) us) ≡ map (λ (e : List ℕ × X). e.0) (found_with u o (found m us))
      by None rest = rest
      by (Some x) rest = ap (λ vs. u ∷ vs) rest

  keys_where : (p : List ℕ → Bool) (es : List (List ℕ × X)) → map (λ (e : List ℕ × X). e.0) (where_key bytes_cmp p es) ≡ filter p (map (λ (e : List ℕ × X). e.0) es)
  keys_where p [] = refl
  keys_where p (e ∷ es) = by (p e.0) (keys_where p es)
    where
      by : (b : Bool) → map (λ (x : List ℕ × X). x.0) (where_key bytes_cmp p es) ≡ filter p (map (λ (x : List ℕ × X). x.0) es) → map (λ (x : List ℕ × X). x.0) (cond b (e ∷ where_key bytes_cmp p es) (where_key bytes_cmp p es)) ≡ cond b (e.0 ∷ filter p (map (λ (x : List ℕ × X). x.0) es)) (filter p (map (λ (x : List ℕ × X). x.0) es))
      by true rest = ap (λ vs. e.0 ∷ vs) rest
      by false rest = rest

  -- and their keys
  pub found_keys : (m : FinMap bytes_cmp X) (p : List ℕ → Bool) (us : List (List ℕ)) → IsStrictlySortedBy bytes_cmp us → ((q : List ℕ) (x : X) → get m q ≡ Some x → list_any (eq_by_cmp bytes_cmp q) us ≡ p q) → filter (λ u. is_some (get m u)) us ≡ filter p (keys m)
  found_keys m p us rising same = keys_found m us ∙ ap (map (λ (e : List ℕ × X). e.0)) (found_where m p us rising same) ∙ keys_where p (entries m)
