-- Rows, one more at a time.
use Rattle.std.proofs.Common.{◌≡◌, ℕ, ◌+◌, ◌<◌, ◌≤◌, List, [], ◌∷◌, ◌++◌, map, take, drop, length, get_or, refl, sym, ap, ◌∙◌, append_assoc, append-nil}
use Rattle.std.proofs.lemmas.List.{take_more, map-append, drop_all, take_all, take-append-drop}
use Rattle.tw_text.specs.Table.{Layout, widened, widths_of, line, lines}

pub lines-append : (ks : Layout) (ws : List ℕ) (xs : List (List (List ℕ))) (x : List (List ℕ)) → lines ks ws (xs ++ x ∷ []) ≡ lines ks ws xs ++ line ks ws x
lines-append ks ws [] x = append-nil (line ks ws x)
lines-append ks ws (y ∷ ys) x = ap (λ t. line ks ws y ++ t) (lines-append ks ws ys x) ∙ sym (append_assoc (line ks ws y) (lines ks ws ys) (line ks ws x))

pub widths_of-append : (ws : List ℕ) (xs : List (List (List ℕ))) (x : List (List ℕ)) → widths_of ws (xs ++ x ∷ []) ≡ widened (widths_of ws xs) x
widths_of-append ws [] x = refl
widths_of-append ws (y ∷ ys) x = widths_of-append (widened ws y) ys x

-- one row more, under a map
pub one_more : {A B : Type 0} (f : A → B) (xs : List A) (i : ℕ) (x : A) → i < length xs → x ≡ get_or xs i x → map f (take (i + 1) xs) ≡ map f (take i xs) ++ f x ∷ []
one_more f xs i x lt is = ap (map f) (take_more xs i x lt ∙ ap (λ y. take i xs ++ y ∷ []) (sym is)) ∙ map-append f (take i xs) (x ∷ [])

pub widened_all : (ws : List ℕ) (n : ℕ) (cs : List (List ℕ)) → length ws ≤ n → take n ws ++ widened (drop n ws) cs ≡ ws
widened_all ws n cs h = ap (λ t. take n ws ++ widened t cs) (drop_all n ws h) ∙ append-nil (take n ws) ∙ take_all n ws h

widened-none : (ws : List ℕ) → widened ws [] ≡ ws
widened-none [] = refl
widened-none (w ∷ ws) = refl

pub widened_over : {X : Type 0} (f : X → List ℕ) (ws : List ℕ) (n : ℕ) (cs : List X) → length cs ≤ n → take n ws ++ widened (drop n ws) (map f (drop n cs)) ≡ ws
widened_over f ws n cs h = ap (λ t. take n ws ++ widened (drop n ws) (map f t)) (drop_all n cs h) ∙ ap (λ t. take n ws ++ t) (widened-none (drop n ws)) ∙ take-append-drop n ws
