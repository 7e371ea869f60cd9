-- The walk over the kinds of records finds the sources of their bodies.
use Rattle.std.proofs.Common.{◌≡◌, ◌∙◌, ℕ, zero, suc, ◌+◌, ◌-◌, ◌<◌, ◌==◌, Bool, true, false, cond, nat_lt, List, [], ◌∷◌, ◌++◌, length, get_or, take, map, reverse, refl, sym, ap, append_assoc, arith}
use Rattle.std.proofs.lemmas.Bool.{false≢true, eqb-true}
use Rattle.std.proofs.lemmas.Bool.Decides.{nat_tests}
use Rattle.std.proofs.lemmas.List.{append-nil, length-map, length-take, length-reverse, reverse-append, reverse-reverse, take_all, take_more, get_or-map}
use Rattle.tw_records.specs.Bodies.{kind_in}
use Rattle.tw_records.specs.Table.{Own, Named, Block, Stored, Odd, sources_of, passing_after, block_after, version_at, missing, found_at}
use Rattle.tw_records.specs.declared.walk.Source.{Source}

module _ (size : ℕ) where
  abbrev found_in : ℕ → ℕ → List (List ℕ) → List Source
  found_in = sources_of size

  one_less : (p : ℕ) → suc p - 1 ≡ p
  one_less p = omega arith

  some : (p : ℕ) → nat_lt 0 (suc p) ≡ true
  some p = grind (arith, nat_tests)

  named_is : (p b n : ℕ) → version_at (suc p) b n ≡ Named b p n
  named_is p b n = ap (λ t. cond t (Named b (suc p - 1) n) (Own n)) (some p) ∙ ap (λ q. Named b q n) (one_less p)

  missing_is : (p b : ℕ) → missing (suc p) b ≡ Odd b ∷ []
  missing_is p b = ap (λ t. cond {A = List Source} t (Odd b ∷ []) []) (some p)

  -- one record more, by its kind
  by_kind : (p less b n kind : ℕ) (v : Source) (m : List Source) (earlier : List (List ℕ)) (t u w : Bool) → kind == 1 ≡ t → kind == 2 ≡ u
      → cond t (found_in less b earlier ++ v ∷ []) (cond u (found_in size n earlier ++ (Block n ∷ m)) (found_in p b earlier ++ cond w (Stored n) (Odd n) ∷ []))
      ≡ found_in (cond t less (cond u size p)) (cond u n b) earlier ++ cond t (v ∷ []) (cond u (Block n ∷ m) (cond w (Stored n ∷ []) (Odd n ∷ [])))
  by_kind p less b n kind v m earlier true true w e f = absurd (false≢true (ap (λ x. x == 2) (sym (eqb-true kind 1 e)) ∙ f))
  by_kind p less b n kind v m earlier true false w e f = refl
  by_kind p less b n kind v m earlier false true w e f = refl
  by_kind p less b n kind v m earlier false false true e f = refl
  by_kind p less b n kind v m earlier false false false e f = refl

  step_is : (p b : ℕ) (body : List ℕ) (earlier : List (List ℕ))
      → found_in p b (body ∷ earlier) ≡ found_in (passing_after size p (kind_in body)) (block_after b (kind_in body) (length earlier)) earlier ++ found_at p b (kind_in body) (length earlier)
  step_is zero b [] earlier = refl
  step_is (suc p) b [] earlier = refl
  step_is zero b (x ∷ xs) earlier = by_kind zero zero b (length earlier) x (Own (length earlier)) [] earlier (x == 1) (x == 2) (x == 3) refl refl
  step_is (suc p) b (x ∷ xs) earlier =
      let n = length earlier in
      by_kind (suc p) p b n x (Named b p n) (Odd b ∷ []) earlier (x == 1) (x == 2) (x == 3) refl refl
      ∙ (λ i. found_in (cond (x == 1) (sym (one_less p) i) (cond (x == 2) size (suc p))) (cond (x == 2) n b) earlier
      ++ cond (x == 1) (sym (named_is p b n) i ∷ []) (cond (x == 2) (Block n ∷ sym (missing_is p b) i) (cond (x == 3) (Stored n ∷ []) (Odd n ∷ []))))

  end_is : (p b : ℕ) → found_in p b [] ≡ missing p b
  end_is zero b = refl
  end_is (suc p) b = sym (missing_is p b)

  missing_back : (p b : ℕ) → reverse (missing p b) ≡ missing p b
  missing_back p b = by (nat_lt 0 p)
    where
      by : (t : Bool) → reverse (cond {A = List Source} t (Odd b ∷ []) []) ≡ cond t (Odd b ∷ []) []
      by true = refl
      by false = refl

  module _ (bodies : List (List ℕ)) (kinds : List ℕ) (same : kinds ≡ map kind_in bodies) where
    -- what was found so far, of the records from this number on
    abbrev pub IsWalked : (n p b : ℕ) → List Source → Type 0
    IsWalked n p b found = found_in zero zero (reverse bodies) ≡ found_in p b (reverse (take n bodies)) ++ reverse found

    count : length kinds ≡ length bodies
    count = ap length same ∙ length-map bodies kind_in

    pub first_walked : (n : ℕ) (found : List Source) → n ≡ length kinds → found ≡ [] → IsWalked n zero zero found
    first_walked n found all none =
        sym (append-nil (found_in zero zero (reverse bodies)))
        ∙ (λ i. found_in zero zero (reverse (sym (take_all n bodies (omega (arith, all, count))) i)) ++ reverse (sym none i))

    pub walked : (n k p b : ℕ) (found : List Source) (kind : ℕ) → n ≡ k + 1 → k < length kinds → kind ≡ get_or kinds k 0 → IsWalked n p b found
        → (new : List Source) (q c : ℕ) → q ≡ passing_after size p kind → c ≡ block_after b kind k → new ≡ found ++ reverse (found_at p b kind k) → IsWalked k q c new
    walked n k p b found kind n_is within kind_is so_far new q c q_is c_is new_is =
        let body = get_or bodies k [] in
        let inside : k < length bodies = omega (arith, within, count) in
        let named : kind_in body ≡ kind = sym (kind_is ∙ ap (λ l. get_or l k 0) same ∙ get_or-map kind_in bodies k [] 0 inside) in
        let earlier = reverse (take k bodies) in
        let long : length earlier ≡ k = length-reverse (take k bodies) ∙ (let l = length-take k bodies in omega (arith, l, inside)) in
        let split : reverse (take n bodies) ≡ body ∷ earlier =
        ap (λ j. reverse (take j bodies)) n_is ∙ ap reverse (take_more bodies k [] inside) ∙ reverse-append (take k bodies) (body ∷ []) in
        let q_same : passing_after size p (kind_in body) ≡ q = ap (passing_after size p) named ∙ sym q_is in
        let c_same : block_after b (kind_in body) (length earlier) ≡ c = (λ i. block_after b (named i) (long i)) ∙ sym c_is in
        let found_same : found_at p b (kind_in body) (length earlier) ++ reverse found ≡ reverse new =
        (λ i. found_at p b (named i) (long i) ++ reverse found) ∙ ap (λ l. l ++ reverse found) (sym (reverse-reverse (found_at p b kind k)))
        ∙ sym (reverse-append found (reverse (found_at p b kind k))) ∙ ap reverse (sym new_is) in
        so_far
        ∙ ap (λ l. found_in p b l ++ reverse found) split
        ∙ ap (λ l. l ++ reverse found) (step_is p b body earlier)
        ∙ append_assoc (found_in (passing_after size p (kind_in body)) (block_after b (kind_in body) (length earlier)) earlier) (found_at p b (kind_in body) (length earlier)) (reverse found)
        ∙ (λ i. found_in (q_same i) (c_same i) earlier ++ found_same i)

    pub all_walked : (n p b : ℕ) (found new : List Source) → n ≡ 0 → IsWalked n p b found → new ≡ found ++ missing p b → reverse new ≡ found_in zero zero (reverse bodies)
    all_walked n p b found new none so_far new_is =
        ap reverse new_is ∙ reverse-append found (missing p b) ∙ ap (λ l. l ++ reverse found) (missing_back p b ∙ sym (end_is p b))
        ∙ sym (so_far ∙ ap (λ j. found_in p b (reverse (take j bodies)) ++ reverse found) none)
