-- What the maps of the versions say, as versions are added.
use Rattle.std.proofs.Common.{◌≡◌, ◌⊎◌, inl, inr, ◌∙◌, ℕ, suc, ◌+◌, ◌<◌, ◌≤◌, Bool, true, false, not, cond, ◌&&◌, if◌then◌else◌, Option, Some, None, option_map, is_some, unwrap_or, List, [], ◌∷◌, ◌++◌, length, get_or, take, refl, sym, ap, arith, nat_lt}
use Rattle.std.specs.List.{position, position_or_len}
use Rattle.std.proofs.lemmas.Bool.{cases_eq, and_parts}
use Rattle.std.proofs.lemmas.List.Quantifiers.{position-Some}
use Rattle.std.proofs.lemmas.Bool.Decides.{nat_tests}
use Rattle.std.specs.Cmp.Lexicographic.{texts_ties}
use Rattle.std.specs.Ordering.{is_eq}
use Rattle.std.specs.declared.cmp.Ordering.{Ordering}
use Rattle.std.specs.declared.cmp.Ordering.TheVariants.{Less, Equal, Greater}
use Rattle.std.proofs.lemmas.List.{length-append, take-append-le, get_or_append_left}
use Rattle.std.proofs.Math.Seq.{get_or-append_seam, take-append_seam}
use Rattle.std.proofs.lemmas.Map.Lookups.{CmpEqualImpliesEq, exact_bytes}
use Rattle.tw_protocol.specs.Chain.{same_id}
use Rattle.tw_protocol.proofs.Chains.{same_id_exact}
use Rattle.tw_records.specs.declared.entry.Entry.{Entry}
use Rattle.tw_server.specs.Versions.{ArePlacesOf, latest_in, ids_of, place_of, place_in, is_keyed, uuid_cmp}

pub exact_uuids : CmpEqualImpliesEq uuid_cmp
exact_uuids = exact_bytes

pub absent : {X : Type 0} (o : Option X) (b : Bool) → b ≡ is_some o → b ≡ false → o ≡ None
absent None b e f = refl
absent (Some x) b e f = let no : true ≡ false = sym e ∙ f in let odd : ⊥ = cc in absurd odd

-- a key that is new, with what is known if there is none, changes nothing
pub still_found : {K X : Type 0} (R : K → K → Ordering) → CmpEqualImpliesEq R → (f g : K → Option X) (k : K) (d : X) → f k ≡ None → ((q : K) → g q ≡ cond (is_eq (R k q)) (Some d) (f q)) → (q : K) → unwrap_or (g q) d ≡ unwrap_or (f q) d
still_found R exact f g k d none is q = ap (λ o. unwrap_or o d) (is q) ∙ by (R k q) refl
  where
    by : (r : Ordering) → R k q ≡ r → unwrap_or (cond (is_eq r) (Some d) (f q)) d ≡ unwrap_or (f q) d
    by Less e = refl
    by Equal e = ap (λ o. unwrap_or o d) (sym (ap f (sym (exact k q e)) ∙ none))
    by Greater e = refl

-- ---- one entry more

latest_push : (client h : List ℕ) (es : List Entry) (e : Entry) → latest_in client h (es ++ e ∷ []) ≡ cond (same_id e.client client) e.id (latest_in client h es)
latest_push client h [] e = refl
latest_push client h (x ∷ es) e = by (same_id x.client client) (λ k. latest_push client k es e)
  where
    by : (t : Bool) → ((k : List ℕ) → latest_in client k (es ++ e ∷ []) ≡ cond (same_id e.client client) e.id (latest_in client k es))
        → (if t then latest_in client x.id (es ++ e ∷ []) else latest_in client h (es ++ e ∷ [])) ≡ cond (same_id e.client client) e.id (if t then latest_in client x.id es else latest_in client h es)
    by true rest = rest x.id
    by false rest = rest h

-- the latest version of a client, after one more
pub latest_more : (client h known : List ℕ) (es : List Entry) (e : Entry) → known ≡ latest_in client h es → cond (is_eq (uuid_cmp e.client client)) e.id known ≡ latest_in client h (es ++ e ∷ [])
latest_more client h known es e is = ap (cond (is_eq (uuid_cmp e.client client)) e.id) is ∙ ap (λ t. cond t e.id (latest_in client h es)) (sym (texts_ties e.client client)) ∙ sym (latest_push client h es e)

-- ---- the ids of a client, after one more version

ids_push : (client : List ℕ) (es : List Entry) (e : Entry) → ids_of client (es ++ e ∷ []) ≡ cond (same_id e.client client) (ids_of client es ++ e.id ∷ []) (ids_of client es)
ids_push client [] e = refl
ids_push client (x ∷ es) e = by (same_id x.client client) (same_id e.client client) (ids_push client es e)
  where
    by : (t u : Bool) → ids_of client (es ++ e ∷ []) ≡ cond u (ids_of client es ++ e.id ∷ []) (ids_of client es)
        → (if t then x.id ∷ ids_of client (es ++ e ∷ []) else ids_of client (es ++ e ∷ []))
        ≡ cond u ((if t then x.id ∷ ids_of client es else ids_of client es) ++ e.id ∷ []) (if t then x.id ∷ ids_of client es else ids_of client es)
    by true true rest = ap (λ l. x.id ∷ l) rest
    by true false rest = ap (λ l. x.id ∷ l) rest
    by false true rest = rest
    by false false rest = rest

module _ (client : List ℕ) (es : List Entry) (e : Entry) where
  ids_same : same_id e.client client ≡ true → ids_of client (es ++ e ∷ []) ≡ ids_of client es ++ e.id ∷ []
  ids_same same = ids_push client es e ∙ ap (λ b. cond b (ids_of client es ++ e.id ∷ []) (ids_of client es)) same

  ids_other : same_id e.client client ≡ false → ids_of client (es ++ e ∷ []) ≡ ids_of client es
  ids_other other = ids_push client es e ∙ ap (λ b. cond b (ids_of client es ++ e.id ∷ []) (ids_of client es)) other

  -- how many versions a client has
  pub counts_more : (known n : ℕ) → known ≡ length (ids_of client es) → n ≡ length (ids_of e.client es) → cond (is_eq (uuid_cmp e.client client)) (n + 1) known ≡ length (ids_of client (es ++ e ∷ []))
  counts_more known n is at = by (same_id e.client client) refl
    where
      by : (t : Bool) → same_id e.client client ≡ t → cond (is_eq (uuid_cmp e.client client)) (n + 1) known ≡ length (ids_of client (es ++ e ∷ []))
      by true same =
          ap (λ b. cond b (n + 1) known) (sym (texts_ties e.client client) ∙ same)
          ∙ ap (λ k. k + 1) (at ∙ ap (λ c. length (ids_of c es)) (same_id_exact e.client client same))
          ∙ sym (ap length (ids_same same) ∙ length-append (ids_of client es) (e.id ∷ []))
      by false other = ap (λ b. cond b (n + 1) known) (sym (texts_ties e.client client) ∙ other) ∙ is ∙ sym (ap length (ids_other other))

-- no client has more versions than there are
pub ids_few : (client : List ℕ) (es : List Entry) → length (ids_of client es) ≤ length es
ids_few client [] = omega arith
ids_few client (e ∷ es) = by (same_id e.client client) (ids_few client es)
  where
    by : (t : Bool) → length (ids_of client es) ≤ length es → length (if t then e.id ∷ ids_of client es else ids_of client es) ≤ length (e ∷ es)
    by true few = omega (arith, few)
    by false few = omega (arith, few)

-- ---- the place of an id

position_cons : {X : Type 0} (p : X → Bool) (x : X) (xs : List X) → position p (x ∷ xs) ≡ cond (p x) (Some 0) (option_map suc (position p xs))
position_cons p x xs = by (p x)
  where
    later : (t : Bool) (k : ℕ) → cond t (Some (suc k)) None ≡ option_map suc (cond t (Some k) None)
    later true k = refl
    later false k = refl

    none : (n : ℕ) → nat_lt 0 (suc n) ≡ true
    none n = grind (arith, nat_tests)

    less : (k n : ℕ) → nat_lt (1 + k) (suc n) ≡ nat_lt k n
    less k n = grind (arith, nat_tests)

    by : (t : Bool) → (let at = cond (not t) (1 + position_or_len p xs) 0 in cond (nat_lt at (suc (length xs))) (Some at) None) ≡ cond t (Some 0) (option_map suc (position p xs))
    by true = ap (λ t. cond t (Some 0) None) (none (length xs))
    by false =
        let k = position_or_len p xs in
        let next : 1 + k ≡ suc k = omega arith in
        (λ i. cond (less k (length xs) i) (Some (next i)) None) ∙ later (nat_lt k (length xs)) k

-- it is how many versions of the client come before the first one of this id
pub place_at : (client id : List ℕ) (es : List Entry) → place_in client id es ≡ option_map (λ n. length (ids_of client (take n es))) (position (is_keyed false client id) es)
place_at client id [] = refl
place_at client id (e ∷ es) =
    by (same_id e.client client) (same_id e.id id) refl refl (position (is_keyed false client id) es) (place_at client id es)
    ∙ sym (ap (option_map (λ n. length (ids_of client (take n (e ∷ es))))) (position_cons (is_keyed false client id) e es))
  where
    ids_are : (t : Bool) → same_id e.client client ≡ t → (n : ℕ) → length (ids_of client (take (suc n) (e ∷ es))) ≡ length (if t then e.id ∷ ids_of client (take n es) else ids_of client (take n es))
    ids_are t same n = ap (λ b. length (if b then e.id ∷ ids_of client (take n es) else ids_of client (take n es))) same

    by : (t u : Bool) → same_id e.client client ≡ t → same_id e.id id ≡ u → (o : Option ℕ) → place_in client id es ≡ option_map (λ n. length (ids_of client (take n es))) o
        → place_of id (if t then e.id ∷ ids_of client es else ids_of client es) ≡ option_map (λ n. length (ids_of client (take n (e ∷ es)))) (cond (t && u) (Some 0) (option_map suc o))
    by true true a b o rest = ap (λ x. cond x (Some 0) (option_map suc (place_in client id es))) b
    by true false a b None rest = (λ i. cond (b i) (Some 0) (option_map suc (rest i)))
    by true false a b (Some n) rest = (λ i. cond (b i) (Some 0) (option_map suc (rest i))) ∙ ap (λ k. Some k) (sym (ids_are true a n))
    by false u a b None rest = rest
    by false u a b (Some n) rest = rest ∙ ap (λ k. Some k) (sym (ids_are false a n))

-- the place of a version that was found
pub place_found : (client id : List ℕ) (places : List ℕ) (es : List Entry) (n : ℕ) → ArePlacesOf places es → position (is_keyed false client id) es ≡ Some n
    → (n < length places) × (Some (get_or places n 0) ≡ place_in client id es)
place_found client id places es n are at =
    let d : Entry = record { client = []; id = []; parent = [] } in
    let first = position-Some (is_keyed false client id) es n d at in
    let here = get_or es n d in
    let same = same_id_exact here.client client (and_parts (same_id here.client client) (same_id here.id id) first.1).0 in (
      let inside = first.0 in let long = are.0 in omega (arith, inside, long),
      ap (λ k. Some k) (are.1 n d first.0 ∙ ap (λ c. length (ids_of c (take n es))) same) ∙ sym (place_at client id es ∙ ap (option_map (λ k. length (ids_of client (take k es)))) at),
    )

pub place_none : (client id : List ℕ) (es : List Entry) → position (is_keyed false client id) es ≡ None → None ≡ place_in client id es
place_none client id es none = sym (place_at client id es ∙ ap (option_map (λ k. length (ids_of client (take k es)))) none)

pub places_more : (places : List ℕ) (es : List Entry) (e : Entry) (n : ℕ) → ArePlacesOf places es → n ≡ length (ids_of e.client es) → ArePlacesOf (places ++ n ∷ []) (es ++ e ∷ [])
places_more places es e n are at = (length-append places (n ∷ []) ∙ ap (λ k. k + 1) are.0 ∙ sym (length-append es (e ∷ [])), λ k d lt. by k d lt (cases_eq k (length es)))
  where
    by : (k : ℕ) (d : Entry) → k < length (es ++ e ∷ []) → (k ≡ length es) ⊎ (k ≡ length es → ⊥)
        → get_or (places ++ n ∷ []) k 0 ≡ length (ids_of (get_or (es ++ e ∷ []) k d).client (take k (es ++ e ∷ [])))
    by k d lt (inl same) =
        ap (λ j. get_or (places ++ n ∷ []) j 0) (same ∙ sym are.0) ∙ get_or-append_seam places n [] 0 ∙ at
        ∙ sym (ap (λ j. length (ids_of (get_or (es ++ e ∷ []) j d).client (take j (es ++ e ∷ [])))) same
        ∙ (λ i. length (ids_of (get_or-append_seam es e [] d i).client (take-append_seam es (e ∷ []) i))))
    by k d lt (inr ne) =
        let less : k < length es = let long = length-append es (e ∷ []) in omega (arith, lt, ne, long) in
        get_or_append_left places (n ∷ []) 0 k (let long = are.0 in omega (arith, less, long)) ∙ are.1 k d less
        ∙ sym (λ i. length (ids_of (get_or_append_left es (e ∷ []) d k less i).client (take-append-le k es (e ∷ []) (omega (arith, less)) i)))
