-- Where each task is in the places, kept as they change.
use Rattle.std.proofs.Common.{◌≡◌, ◌⊎◌, inl, inr, ℕ, zero, suc, Bool, true, false, cond, ◌||◌, List, [], ◌∷◌, ◌++◌, length, map, set, take, drop, get_or, ◌<◌, ◌+◌, Option, Some, None, is_some, refl, sym, ap, subst, ◌∙◌, arith}
use Rattle.std.proofs.lemmas.List.{take_more, drop_more, take-append-drop, length-take-le}
use Rattle.std.specs.Cmp.{both_ways}
use Rattle.std.specs.Cmp.Lexicographic.{texts_ties}
use Rattle.std.specs.Ordering.{eq_by_cmp}
use Rattle.std.specs.BTreeMap as tree
use Rattle.tw_model.specs.Maps.{bytes_cmp, same_bytes}
use Rattle.tw_model.specs.Places.{Places, has_uuid, uuid_at}
use Rattle.tw_numbers.specs.Numbering.{is_placed}
use Rattle.tw_numbers.specs.Assigned.{IsOnce, IsIndex, without}
use Rattle.tw_numbers.proofs.Ranks.{same_uuid, same_key, itself}
use Rattle.tw_numbers.proofs.PlacedAfter.{placed-append}

pub same_itself : (u : List ℕ) → same_bytes u u ≡ true
same_itself u = texts_ties u u ∙ itself u

or_right : (a b : Bool) → b ≡ true → a || b ≡ true
or_right true b e = refl
or_right false b e = e

pub some_is : (u v : List ℕ) → Some u ≡ Some v → u ≡ v
some_is u v e = ap (λ (o : Option (List ℕ)). of o) e
  where
    of : Option (List ℕ) → List ℕ
    of None = u
    of (Some w) = w

pub none_some : (u : List ℕ) → None ≡ Some u → ⊥
none_some u e = absurd cc

-- ---- the uuid at a place

placed_at : (places : Places) (u : List ℕ) → is_placed places u ≡ true → (at : ℕ) × (uuid_at at places ≡ Some u)
placed_at [] u e = absurd cc
placed_at (None ∷ places) u e = let rest = placed_at places u e in (suc rest.0, rest.1)
placed_at (Some v ∷ places) u e = by (same_bytes u v) refl e (placed_at places u)
  where
    by : (b : Bool) → same_bytes u v ≡ b → b || is_placed places u ≡ true → (is_placed places u ≡ true → (at : ℕ) × (uuid_at at places ≡ Some u)) → (at : ℕ) × (uuid_at at (Some v ∷ places) ≡ Some u)
    by true t f rest = (0, ap (λ (w : List ℕ). Some w) (sym (same_uuid u v t)))
    by false t f rest = let r = rest f in (suc r.0, r.1)

pub at_placed : (places : Places) (u : List ℕ) (at : ℕ) → uuid_at at places ≡ Some u → is_placed places u ≡ true
at_placed [] u at e = absurd (none_some u e)
at_placed (p ∷ places) u zero e = ap (λ b. b || is_placed places u) (ap (has_uuid u) e ∙ same_itself u)
at_placed (p ∷ places) u (suc at) e = or_right (has_uuid u p) (is_placed places u) (at_placed places u at e)

set_here : (places : Places) (at : ℕ) → uuid_at at (set places at None) ≡ None
set_here [] at = refl
set_here (p ∷ places) zero = refl
set_here (p ∷ places) (suc at) = set_here places at

set_apart : (places : Places) (at i : ℕ) → (i ≡ at → ⊥) → uuid_at i (set places at None) ≡ uuid_at i places
set_apart [] at i ne = refl
set_apart (p ∷ places) zero zero ne = absurd (ne refl)
set_apart (p ∷ places) zero (suc i) ne = refl
set_apart (p ∷ places) (suc at) zero ne = refl
set_apart (p ∷ places) (suc at) (suc i) ne = set_apart places at i (λ e. ne (ap suc e))

push_here : (places : Places) (u : List ℕ) → uuid_at (length places) (places ++ Some u ∷ []) ≡ Some u
push_here [] u = refl
push_here (p ∷ places) u = push_here places u

push_old : (places : Places) (u q : List ℕ) (i : ℕ) → uuid_at i places ≡ Some q → uuid_at i (places ++ Some u ∷ []) ≡ Some q
push_old [] u q i e = absurd (none_some q e)
push_old (p ∷ places) u q zero e = e
push_old (p ∷ places) u q (suc i) e = push_old places u q i e

push_is : (places : Places) (u q : List ℕ) (i : ℕ) → uuid_at i (places ++ Some u ∷ []) ≡ Some q → (uuid_at i places ≡ Some q) ⊎ ((i ≡ length places) × (u ≡ q))
push_is [] u q zero e = inr (refl, some_is u q e)
push_is [] u q (suc i) e = absurd (none_some q e)
push_is (p ∷ places) u q zero e = inl e
push_is (p ∷ places) u q (suc i) e = more (push_is places u q i e)
  where
    more : (uuid_at i places ≡ Some q) ⊎ ((i ≡ length places) × (u ≡ q)) → (uuid_at i places ≡ Some q) ⊎ ((suc i ≡ suc (length places)) × (u ≡ q))
    more (inl f) = inl f
    more (inr f) = inr (ap suc f.0, f.1)

-- ---- a place becomes vacant

pub without_none : (places : Places) (u : List ℕ) → is_placed places u ≡ false → map (without u) places ≡ places
without_none [] u e = refl
without_none (p ∷ places) u e = by (has_uuid u p) refl e (without_none places u)
  where
    by : (b : Bool) → has_uuid u p ≡ b → b || is_placed places u ≡ false → (is_placed places u ≡ false → map (without u) places ≡ places) → without u p ∷ map (without u) places ≡ p ∷ places
    by true t f rest = absurd cc
    by false t f rest = (λ i. ap (λ c. cond c None p) t i ∷ rest f i)

-- a uuid that stands at one place stands nowhere after it
not_behind : (places : Places) (u : List ℕ) → ((i : ℕ) → uuid_at i places ≡ Some u → ⊥) → is_placed places u ≡ false
not_behind places u none = elim (is_placed places u) as (λ b. is_placed places u ≡ b → b ≡ false) [ true ↦ λ e. (let at = placed_at places u e in absurd (none at.0 at.1)) | false ↦ λ e. refl ] refl

zero_suc : (n : ℕ) → suc n ≡ 0 → ⊥
zero_suc n e = absurd (omega arith)

same_suc : (m n : ℕ) → suc m ≡ suc n → m ≡ n
same_suc m n e = omega arith

pub set_without : (places : Places) (u : List ℕ) (at : ℕ) → uuid_at at places ≡ Some u → ((i : ℕ) → uuid_at i places ≡ Some u → i ≡ at) → set places at None ≡ map (without u) places
set_without [] u at e only = refl
set_without (p ∷ places) u zero e only =
    let gone : without u p ≡ None = ap (λ b. cond b None p) (ap (has_uuid u) e ∙ same_itself u) in
    (λ i. sym gone i ∷ sym (without_none places u (not_behind places u (λ i f. zero_suc i (only (suc i) f)))) i)
set_without (p ∷ places) u (suc at) e only =
    (λ i. sym (stays p (λ f. zero_suc at (sym (only 0 f)))) i ∷ set_without places u at e (λ i f. same_suc i at (only (suc i) f)) i)
  where
    stays : (q : Option (List ℕ)) → (q ≡ Some u → ⊥) → without u q ≡ q
    stays None ne = refl
    stays (Some v) ne = elim (same_bytes u v) as (λ b. same_bytes u v ≡ b → cond b None (Some v) ≡ Some v) [ true ↦ λ t. absurd (ne (ap (λ (w : List ℕ). Some w) (sym (same_uuid u v t)))) | false ↦ λ t. refl ] refl

-- ---- the map

module _ (index : tree.BTreeMap (List ℕ) ℕ) (places : Places) (is : IsIndex index places) where
  pub indexed_is_placed : (u : List ℕ) → is_some (tree.get bytes_cmp index u) ≡ is_placed places u
  indexed_is_placed u = both_ways (is_some (tree.get bytes_cmp index u)) (is_placed places u) forth back
    where
      forth : is_some (tree.get bytes_cmp index u) ≡ true → is_placed places u ≡ true
      forth e = elim (tree.get bytes_cmp index u) as (λ o. tree.get bytes_cmp index u ≡ o → is_some o ≡ true → is_placed places u ≡ true) [
        | None ↦ λ f g. absurd cc
        | Some at ↦ λ f g. at_placed places u at (is.there u at f)
      ] refl e

      back : is_placed places u ≡ true → is_some (tree.get bytes_cmp index u) ≡ true
      back e = let at = placed_at places u e in ap is_some (is.found u at.0 at.1)

  -- a uuid that the map does not know has no place
  pub unknown_is_nowhere : (u : List ℕ) → tree.get bytes_cmp index u ≡ None → map (without u) places ≡ places
  unknown_is_nowhere u none = without_none places u (sym (indexed_is_placed u) ∙ ap is_some none)

  number_is : (at i : ℕ) → Some at ≡ Some i → i ≡ at
  number_is at i e = sym (ap (λ (o : Option ℕ). of o) e)
    where
      of : Option ℕ → ℕ
      of None = at
      of (Some n) = n

  pub known_is_there : (u : List ℕ) (at : ℕ) → tree.get bytes_cmp index u ≡ Some at → set places at None ≡ map (without u) places
  known_is_there u at e = set_without places u at (is.there u at e) (λ i f. number_is at i (sym e ∙ is.found u i f))

  pub index_without : (new : tree.BTreeMap (List ℕ) ℕ) (u : List ℕ) (at : ℕ) → tree.get bytes_cmp index u ≡ Some at → ((q : List ℕ) → tree.get bytes_cmp new q ≡ cond (eq_by_cmp bytes_cmp u q) None (tree.get bytes_cmp index q)) → IsIndex new (set places at None)
  index_without new u at here get_new = record { there = there; found = found }
    where
      split : (q : List ℕ) (b : Bool) (i : ℕ) → cond b None (tree.get bytes_cmp index q) ≡ Some i → (b ≡ false) × (tree.get bytes_cmp index q ≡ Some i)
      split q true i e = absurd cc
      split q false i e = (refl, e)

      there : (q : List ℕ) (i : ℕ) → tree.get bytes_cmp new q ≡ Some i → uuid_at i (set places at None) ≡ Some q
      there q i e =
          let s = split q (eq_by_cmp bytes_cmp u q) i (sym (get_new q) ∙ e) in
          let old = is.there q i s.1 in
          set_apart places at i (λ same. apart q s.0 (sym (is.there u at here) ∙ sym (ap (λ j. uuid_at j places) same) ∙ old)) ∙ old
        where
          apart : (q : List ℕ) → eq_by_cmp bytes_cmp u q ≡ false → Some u ≡ Some q → ⊥
          apart q ne e = absurd (both ne (ap (eq_by_cmp bytes_cmp u) (sym (some_is u q e)) ∙ itself u))
            where
              both : eq_by_cmp bytes_cmp u q ≡ false → eq_by_cmp bytes_cmp u q ≡ true → ⊥
              both a b = absurd cc

      found : (q : List ℕ) (i : ℕ) → uuid_at i (set places at None) ≡ Some q → tree.get bytes_cmp new q ≡ Some i
      found q i e =
          let ne : i ≡ at → ⊥ = λ same. none_some q (sym (set_here places at) ∙ sym (ap (λ j. uuid_at j (set places at None)) same) ∙ e) in
          let old = is.found q i (sym (set_apart places at i ne) ∙ e) in
          get_new q ∙ ap (λ b. cond b None (tree.get bytes_cmp index q)) (other q i ne old) ∙ old
        where
          other : (q : List ℕ) (i : ℕ) → (i ≡ at → ⊥) → tree.get bytes_cmp index q ≡ Some i → eq_by_cmp bytes_cmp u q ≡ false
          other q i ne old = elim (eq_by_cmp bytes_cmp u q) as (λ b. eq_by_cmp bytes_cmp u q ≡ b → b ≡ false) [
            | true ↦ λ t. absurd (ne (number_is at i (sym here ∙ ap (tree.get bytes_cmp index) (same_key u q t) ∙ old)))
            | false ↦ λ t. refl
          ] refl

  pub index_push : (new : tree.BTreeMap (List ℕ) ℕ) (u : List ℕ) → is_placed places u ≡ false → ((q : List ℕ) → tree.get bytes_cmp new q ≡ cond (eq_by_cmp bytes_cmp u q) (Some (length places)) (tree.get bytes_cmp index q)) → IsIndex new (places ++ Some u ∷ [])
  index_push new u free get_new = record { there = there; found = found }
    where
      there : (q : List ℕ) (i : ℕ) → tree.get bytes_cmp new q ≡ Some i → uuid_at i (places ++ Some u ∷ []) ≡ Some q
      there q i e = by (eq_by_cmp bytes_cmp u q) refl (sym (get_new q) ∙ e)
        where
          by : (b : Bool) → eq_by_cmp bytes_cmp u q ≡ b → cond b (Some (length places)) (tree.get bytes_cmp index q) ≡ Some i → uuid_at i (places ++ Some u ∷ []) ≡ Some q
          by true t f = ap (λ j. uuid_at j (places ++ Some u ∷ [])) (number_is (length places) i f) ∙ push_here places u ∙ ap (λ (w : List ℕ). Some w) (same_key u q t)
          by false t f = push_old places u q i (is.there q i f)

      found : (q : List ℕ) (i : ℕ) → uuid_at i (places ++ Some u ∷ []) ≡ Some q → tree.get bytes_cmp new q ≡ Some i
      found q i e = by (push_is places u q i e)
        where
          by : (uuid_at i places ≡ Some q) ⊎ ((i ≡ length places) × (u ≡ q)) → tree.get bytes_cmp new q ≡ Some i
          by (inl old) = get_new q ∙ ap (λ b. cond b (Some (length places)) (tree.get bytes_cmp index q)) (other old) ∙ is.found q i old
            where
              other : uuid_at i places ≡ Some q → eq_by_cmp bytes_cmp u q ≡ false
              other old = elim (eq_by_cmp bytes_cmp u q) as (λ b. eq_by_cmp bytes_cmp u q ≡ b → b ≡ false) [
                | true ↦ λ t. absurd (both free (at_placed places u i (old ∙ ap (λ (w : List ℕ). Some w) (sym (same_key u q t)))))
                | false ↦ λ t. refl
              ] refl
                where
                  both : is_placed places u ≡ false → is_placed places u ≡ true → ⊥
                  both a b = absurd cc
          by (inr last) = get_new q ∙ ap (λ b. cond b (Some (length places)) (tree.get bytes_cmp index q)) (ap (eq_by_cmp bytes_cmp u) (sym last.1) ∙ itself u) ∙ ap (λ n. Some n) (sym last.0)

-- a vacant place more
pub index_vacant : (index : tree.BTreeMap (List ℕ) ℕ) (places : Places) → IsIndex index places → IsIndex index (places ++ None ∷ [])
index_vacant index places is = record { there = λ u i e. old places u i (is.there u i e); found = λ u i e. is.found u i (back places u i e) }
  where
    old : (ps : Places) (u : List ℕ) (i : ℕ) → uuid_at i ps ≡ Some u → uuid_at i (ps ++ None ∷ []) ≡ Some u
    old [] u i e = absurd (none_some u e)
    old (p ∷ ps) u zero e = e
    old (p ∷ ps) u (suc i) e = old ps u i e

    back : (ps : Places) (u : List ℕ) (i : ℕ) → uuid_at i (ps ++ None ∷ []) ≡ Some u → uuid_at i ps ≡ Some u
    back [] u zero e = e
    back [] u (suc i) e = e
    back (p ∷ ps) u zero e = e
    back (p ∷ ps) u (suc i) e = back ps u i e

-- in places where no uuid stands twice, what stands after others is not among them
pub once_front : (xs ys : Places) (u : List ℕ) → IsOnce (xs ++ Some u ∷ ys) → is_placed xs u ≡ false
once_front [] ys u once = refl
once_front (None ∷ xs) ys u once = once_front xs ys u once
once_front (Some v ∷ xs) ys u once =
    (λ i. apart (sym (placed-append xs (Some u ∷ ys) v) ∙ once.0) i || once_front xs ys u once.1 i)
  where
    apart : is_placed xs v || (same_bytes v u || is_placed ys v) ≡ false → same_bytes u v ≡ false
    apart e = elim (same_bytes u v) as (λ b. same_bytes u v ≡ b → b ≡ false) [
      | true ↦ λ t. absurd (no (is_placed xs v) (same_bytes v u) (is_placed ys v) (ap (λ w. same_bytes v w) (same_uuid u v t) ∙ same_itself v) e)
      | false ↦ λ t. refl
    ] refl
      where
        no : (a b c : Bool) → b ≡ true → a || (b || c) ≡ false → ⊥
        no true b c t f = absurd cc
        no false true c t f = absurd cc
        no false false c t f = absurd cc

pub uuid_at_below : (places : Places) (u : List ℕ) (at : ℕ) → uuid_at at places ≡ Some u → at < length places
uuid_at_below [] u at e = absurd (none_some u e)
uuid_at_below (p ∷ places) u zero e = omega arith
uuid_at_below (p ∷ places) u (suc at) e = let lt = uuid_at_below places u at e in omega arith

-- a map that lost a uuid that it did not know
pub index_unchanged : (index new : tree.BTreeMap (List ℕ) ℕ) (places : Places) (u : List ℕ) → IsIndex index places → tree.get bytes_cmp index u ≡ None → ((q : List ℕ) → tree.get bytes_cmp new q ≡ cond (eq_by_cmp bytes_cmp u q) None (tree.get bytes_cmp index q)) → IsIndex new places
index_unchanged index new places u is none get_new = record { there = λ q i e. is.there q i (sym (same q) ∙ e); found = λ q i e. same q ∙ is.found q i e }
  where
    same : (q : List ℕ) → tree.get bytes_cmp new q ≡ tree.get bytes_cmp index q
    same q = get_new q ∙ elim (eq_by_cmp bytes_cmp u q) as (λ b. eq_by_cmp bytes_cmp u q ≡ b → cond b None (tree.get bytes_cmp index q) ≡ tree.get bytes_cmp index q) [
      | true ↦ λ t. sym (ap (tree.get bytes_cmp index) (sym (same_key u q t)) ∙ none)
      | false ↦ λ t. refl
    ] refl

-- the map with one place more
pub index_some : (index new : tree.BTreeMap (List ℕ) ℕ) (before after : Places) (place : Option (List ℕ)) (u : List ℕ) (at : ℕ) → IsIndex index before → at ≡ length before → IsOnce (before ++ place ∷ after) → place ≡ Some u
    → ((q : List ℕ) → tree.get bytes_cmp new q ≡ cond (eq_by_cmp bytes_cmp u q) (Some at) (tree.get bytes_cmp index q)) → IsIndex new (before ++ place ∷ [])
index_some index new before after place u at is here once the get_new =
    subst (λ (p : Option (List ℕ)). IsIndex new (before ++ p ∷ [])) (sym the)
    (index_push index before is new u (once_front before after u (subst (λ (p : Option (List ℕ)). IsOnce (before ++ p ∷ after)) the once)) (λ q. get_new q ∙ ap (λ n. cond (eq_by_cmp bytes_cmp u q) (Some n) (tree.get bytes_cmp index q)) here))

-- one place more is in the map
pub index_more : (new : tree.BTreeMap (List ℕ) ℕ) (places : Places) (at : ℕ) (place : Option (List ℕ)) → at < length places → place ≡ get_or places at place → IsOnce places
    → ((before after : Places) → at ≡ length before → before ≡ take at places → IsOnce (before ++ place ∷ after) → IsIndex new (before ++ place ∷ [])) → IsIndex new (take (at + 1) places)
index_more new places at place lt here once add =
    let whole : places ≡ take at places ++ place ∷ drop (at + 1) places = sym (take-append-drop at places) ∙ ap (λ (l : Places). take at places ++ l) (drop_more places at place lt ∙ ap (λ (p : Option (List ℕ)). p ∷ drop (at + 1) places) (sym here)) in
    let front : take (at + 1) places ≡ take at places ++ place ∷ [] = take_more places at place lt ∙ ap (λ (p : Option (List ℕ)). take at places ++ p ∷ []) (sym here) in
    subst (IsIndex new) (sym front) (add (take at places) (drop (at + 1) places) (sym (length-take-le at places (omega arith))) refl (subst IsOnce whole once))
