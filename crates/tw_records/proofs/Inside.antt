-- The sources of records are inside them.
use Rattle.std.proofs.Common.{◌≡◌, ◌∙◌, ℕ, zero, suc, ◌<◌, ◌≤◌, Bool, true, false, cond, List, [], ◌∷◌, ◌++◌, length, map, reverse, refl, sym, subst, arith, ap}
use Rattle.std.specs.Prelude.{All}
use Rattle.std.specs.Prelude.{Result, Ok, Err, IfOk}
use Rattle.std.proofs.lemmas.List.{length-map, length-reverse, reverse-append, reverse-reverse}
use Rattle.std.proofs.lemmas.List.Elements.{All-nil, All-cons, All-push, All-append, All-tail, All-head}
use Rattle.tw_records.specs.Bodies.{block_size, is_kind, kind_in}
use Rattle.tw_records.specs.Table.{Source, Own, Named, Block, Stored, Odd, sources_of, other}
use Rattle.tw_records.specs.Opening.{IsInside}

abbrev AreInside : ℕ → List Source → Type 0
AreInside count sources = All (IsInside count) sources

module _ (count : ℕ) where
  abbrev P : Source → Type 0
  P = IsInside count

  other_inside : (body : List ℕ) (n : ℕ) → n < count → P (other body n)
  other_inside body n lt = by (is_kind 3 body)
    where
      by : (t : Bool) → P (cond t (Stored n) (Odd n))
      by true = lt
      by false = lt

  pub sources_inside : (p b : ℕ) (back : List (List ℕ)) → length back ≤ count → (0 < p → b < count) → p ≤ 256 → AreInside count (sources_of block_size p b back)
  sources_inside zero b [] long after few = All-nil P
  sources_inside (suc p) b [] long after few = All-cons P (Odd b) [] (after (omega arith)) (All-nil P)
  sources_inside zero b (body ∷ earlier) long after few =
      by (is_kind 1 body) (is_kind 2 body) (omega (arith, long)) (sources_inside zero b earlier (omega (arith, long)) after few) (sources_inside 256 (length earlier) earlier (omega (arith, long)) (λ some. omega (arith, long)) (omega arith))
    where
      n : ℕ
      n = length earlier

      by : (t u : Bool) → n < count → AreInside count (sources_of block_size zero b earlier) → AreInside count (sources_of block_size block_size n earlier)
          → AreInside count (cond t (sources_of block_size zero b earlier ++ Own n ∷ []) (cond u (sources_of block_size block_size n earlier ++ Block n ∷ []) (sources_of block_size zero b earlier ++ other body n ∷ [])))
      by true u lt same all = All-push P (sources_of block_size zero b earlier) (Own n) same lt
      by false true lt same all = All-push P (sources_of block_size block_size n earlier) (Block n) all lt
      by false false lt same all = All-push P (sources_of block_size zero b earlier) (other body n) same (other_inside body n lt)
  sources_inside (suc p) b (body ∷ earlier) long after few =
      let there : b < count = after (omega arith) in
      by (is_kind 1 body) (is_kind 2 body) (omega (arith, long)) there (omega (arith, few)) (sources_inside p b earlier (omega (arith, long)) (λ some. there) (omega (arith, few))) (sources_inside (suc p) b earlier (omega (arith, long)) after few)
      (sources_inside 256 (length earlier) earlier (omega (arith, long)) (λ some. omega (arith, long)) (omega arith))
    where
      n : ℕ
      n = length earlier

      by : (t u : Bool) → n < count → b < count → p < 256 → AreInside count (sources_of block_size p b earlier) → AreInside count (sources_of block_size (suc p) b earlier) → AreInside count (sources_of block_size block_size n earlier)
          → AreInside count (cond t (sources_of block_size p b earlier ++ Named b p n ∷ [])
          (cond u (sources_of block_size block_size n earlier ++ (Block n ∷ Odd b ∷ [])) (sources_of block_size (suc p) b earlier ++ other body n ∷ [])))
      by true u lt there small less same all = All-push P (sources_of block_size p b earlier) (Named b p n) less (there, small, lt)
      by false true lt there small less same all = All-append P (sources_of block_size block_size n earlier) (Block n ∷ Odd b ∷ []) all (All-cons P (Block n) (Odd b ∷ []) lt (All-cons P (Odd b) [] there (All-nil P)))
      by false false lt there small less same all = All-push P (sources_of block_size (suc p) b earlier) (other body n) same (other_inside body n lt)

-- bodies with these kinds
abbrev singles : List ℕ → List (List ℕ)
singles kinds = map (λ k. k ∷ []) kinds

kinds_back : (kinds : List ℕ) → kinds ≡ map kind_in (singles kinds)
kinds_back [] = refl
kinds_back (k ∷ kinds) = λ i. k ∷ kinds_back kinds i

All-reverse : {X : Type 0} (P : X → Type 0) (xs : List X) → All P xs → All P (reverse xs)
All-reverse P [] all = all
All-reverse P (x ∷ xs) all = subst (All P) (sym (reverse-append (x ∷ []) xs)) (All-push P (reverse xs) x (All-reverse P xs (All-tail P x xs all)) (All-head P x xs all))

pub walked_inside : (kinds : List ℕ) (sources : List Source) → ((bodies : List (List ℕ)) → kinds ≡ map kind_in bodies → reverse sources ≡ sources_of block_size zero zero (reverse bodies)) → AreInside (length kinds) sources
walked_inside kinds sources is =
    let long : length (reverse (singles kinds)) ≡ length kinds = length-reverse (singles kinds) ∙ length-map kinds (λ k. k ∷ []) in
    subst (AreInside (length kinds)) (ap reverse (sym (is (singles kinds) (kinds_back kinds))) ∙ reverse-reverse sources) (All-reverse (IsInside (length kinds)) (sources_of block_size zero zero (reverse (singles kinds)))
    (sources_inside (length kinds) zero zero (reverse (singles kinds)) (omega (arith, long)) (λ some. absurd (omega (arith, some))) (omega arith)))

pub if_ok_weaker : {X E : Type 0} {P Q : X → Type 0} (r : Result X E) → ((x : X) → P x → Q x) → IfOk r P → IfOk r Q
if_ok_weaker (Ok x) f h = f x h
if_ok_weaker (Err e) f h = tt
