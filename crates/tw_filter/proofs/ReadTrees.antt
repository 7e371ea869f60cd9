-- The tokens that spell a tree are read to the end.
use Rattle.std.proofs.Common.{◌≡◌, ℕ, ◌+◌, ◌-◌, ◌≤◌, ◌==◌, max, nat_lt, nat_le, Bool, true, false, cond, ◌&&◌, List, [], ◌∷◌, ◌++◌, map, Err, append_assoc, append-nil, refl, sym, ap, ◌∙◌, arith}
use Rattle.std.proofs.lemmas.Bool.Decides.{nat_tests}
use Rattle.tw_terms.specs.declared.bad_word.WordKind.TheVariants as bad
use Rattle.tw_terms.specs.declared.id_word.Name.{Name}
use Rattle.tw_terms.specs.declared.token.Token.{Token}
use Rattle.tw_terms.specs.declared.token.Token.TheVariants.{Xor, Or, And, Open, Close, Named}
use Rattle.tw_filter.specs.declared.grammar.Behind.{Behind}
use Rattle.tw_filter.specs.declared.grammar.Behind.TheVariants.{Nothing, Bracket, Mark, Part}
use Rattle.tw_filter.specs.declared.grammar.Progress.{Progress}
use Rattle.tw_filter.specs.Grammar.{at, next, run, run_from, start}
use Rattle.tw_filter.specs.Trees.{Tree, begins_with_name, ends_with_name, beside, in_brackets, spelled, deeper, depth_of, is_at_end, TreesAreRead}
use Rattle.tw_filter.specs.Trees.Tree.{OneName, Ask, Unless, Within, Both, Beside, OneAtLeast, OneOnly}

abbrev pub place : ℕ → Behind → Progress
place depth behind = record { depth = depth; behind = behind }

-- tokens are a part, with so many brackets open at once
abbrev ArePart : List Token → ℕ → Type 0
ArePart xs n = (depth : ℕ) (behind : Behind) (ts : List Token) → depth + n ≤ 100 → run (place depth behind) (xs ++ ts) ≡ run (place depth Part) ts

names_are_read : (ns : List Name) (depth : ℕ) (ts : List Token) → run (place depth Part) (map Named ns ++ ts) ≡ run (place depth Part) ts
names_are_read [] depth ts = refl
names_are_read (n ∷ ns) depth ts = names_are_read ns depth ts

-- a bracket is closed behind a part
pub one_closes : (inner outer : ℕ) (ts : List Token) → inner ≡ outer + 1 → run (place inner Part) (Close ∷ ts) ≡ run (place outer Part) ts
one_closes inner outer ts more = by (inner == 0) refl
  where
    by : (none : Bool) → (inner == 0) ≡ none → run_from (cond none (Err bad.Bracket) (at (inner - 1) Part)) (λ q. run q ts) ≡ run (place outer Part) ts
    by true e = absurd (grind (arith, nat_tests))
    by false e = let less : inner - 1 ≡ outer = omega arith in ap (λ depth. run (place depth Part) ts) less

within : (xs : List Token) (n : ℕ) → ArePart xs n → ArePart (Open ∷ xs ++ Close ∷ []) (n + 1)
within xs n inside depth behind ts fits = by (nat_le 100 depth) refl
  where
    by : (full : Bool) → nat_le 100 depth ≡ full → run_from (cond full (Err bad.Bracket) (at (depth + 1) Bracket)) (λ q. run q ((xs ++ Close ∷ []) ++ ts)) ≡ run (place depth Part) ts
    by true e = absurd (grind (arith, nat_tests))
    by false e =
        ap (run (place (depth + 1) Bracket)) (append_assoc xs (Close ∷ []) ts)
        ∙ inside (depth + 1) Bracket (Close ∷ ts) (omega arith)
        ∙ one_closes (depth + 1) depth ts refl

bound : (less : Bool) (xs : List Token) (n : ℕ) → ArePart xs n → ArePart (in_brackets less xs) (deeper less n)
bound false xs n part = part
bound true xs n part = within xs n part

-- parts on both sides of a mark
joined : (mark : Token) → ((depth : ℕ) → next (place depth Part) mark ≡ at depth Mark) → (xs ys : List Token) (m n : ℕ) → ArePart xs m → ArePart ys n → ArePart (xs ++ mark ∷ ys) (max m n)
joined mark joins xs ys m n first second depth behind ts fits =
    ap (run (place depth behind)) (append_assoc xs (mark ∷ ys) ts)
    ∙ first depth behind (mark ∷ (ys ++ ts)) (omega arith)
    ∙ ap (λ r. run_from r (λ q. run q (ys ++ ts))) (joins depth)
    ∙ second depth Mark ts (omega arith)

side_by_side : (xs ys : List Token) (m n : ℕ) → ArePart xs m → ArePart ys n → ArePart (beside xs ys) (max m n)
side_by_side xs ys m n first second = by (ends_with_name xs && begins_with_name ys)
  where
    by : (names_meet : Bool) → ArePart (cond names_meet (xs ++ And ∷ ys) (xs ++ ys)) (max m n)
    by true = joined And (λ depth. refl) xs ys m n first second
    by false = λ depth behind ts fits. ap (run (place depth behind)) (append_assoc xs ys ts) ∙ first depth behind (ys ++ ts) (omega arith) ∙ second depth Part ts (omega arith)

is_part : (t : Tree) (binding : ℕ) → ArePart (spelled binding t) (depth_of binding t)
is_part (OneName n ns) binding = λ depth behind ts fits. names_are_read ns depth ts
is_part (Ask t) binding = λ depth behind ts fits. refl
is_part (Unless a) binding = λ depth behind ts fits. is_part a 3 depth Mark ts fits
is_part (Within a) binding = within (spelled 0 a) (depth_of 0 a) (is_part a 0)
is_part (Both a b) binding =
    bound (nat_lt 2 binding) (spelled 2 a ++ And ∷ spelled 3 b) (max (depth_of 2 a) (depth_of 3 b))
    (joined And (λ depth. refl) (spelled 2 a) (spelled 3 b) (depth_of 2 a) (depth_of 3 b) (is_part a 2) (is_part b 3))
is_part (Beside a b) binding =
    bound (nat_lt 2 binding) (beside (spelled 2 a) (spelled 3 b)) (max (depth_of 2 a) (depth_of 3 b))
    (side_by_side (spelled 2 a) (spelled 3 b) (depth_of 2 a) (depth_of 3 b) (is_part a 2) (is_part b 3))
is_part (OneAtLeast a b) binding =
    bound (nat_lt 1 binding) (spelled 1 a ++ Or ∷ spelled 2 b) (max (depth_of 1 a) (depth_of 2 b))
    (joined Or (λ depth. refl) (spelled 1 a) (spelled 2 b) (depth_of 1 a) (depth_of 2 b) (is_part a 1) (is_part b 2))
is_part (OneOnly a b) binding =
    bound (nat_lt 0 binding) (spelled 0 a ++ Xor ∷ spelled 1 b) (max (depth_of 0 a) (depth_of 1 b))
    (joined Xor (λ depth. refl) (spelled 0 a) (spelled 1 b) (depth_of 0 a) (depth_of 1 b) (is_part a 0) (is_part b 1))

pub trees_are_read : TreesAreRead
trees_are_read t fits = ap (λ xs. is_at_end (run start xs)) (sym (append-nil (spelled 0 t))) ∙ ap is_at_end (is_part t 0 0 Nothing [] (omega arith))
