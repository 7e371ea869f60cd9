-- Rows that give way to others in their vector.
use Rattle.std.proofs.Common.{◌≡◌, ℕ, ◌+◌, ◌-◌, ◌≤◌, List, ◌++◌, length, take, drop, sym, ap, ◌∙◌, append_assoc, arith, length-append, length-drop}
use Rattle.std.proofs.Math.Seq.{take-append_seam, drop-append_seam}
use Rattle.std.proofs.lemmas.List.{take-append-drop, length-take-le, drop-drop}

-- the items from an index on, the first so many of them after the others
abbrev pub turned : {A : Type 0} → ℕ → ℕ → List A → List A
turned at count xs = take at xs ++ (drop count (drop at xs) ++ take count (drop at xs))

turned_is : {A : Type 0} (f r y : List A) (at count : ℕ) → at ≡ length f → count ≡ length r → turned at count (f ++ (r ++ y)) ≡ f ++ (y ++ r)
turned_is f r y at count is size =
    ap (λ n. turned n count (f ++ (r ++ y))) is ∙ ap (λ n. turned (length f) n (f ++ (r ++ y))) size
    ∙ ap (λ l. l ++ (drop (length r) (drop (length f) (f ++ (r ++ y))) ++ take (length r) (drop (length f) (f ++ (r ++ y))))) (take-append_seam f (r ++ y))
    ∙ ap (λ l. f ++ (drop (length r) l ++ take (length r) l)) (drop-append_seam f (r ++ y))
    ∙ ap (λ l. f ++ (l ++ take (length r) (r ++ y))) (drop-append_seam r y)
    ∙ ap (λ l. f ++ (y ++ l)) (take-append_seam r y)

parts : {A : Type 0} (f r b y : List A) (at size place count total : ℕ) → at ≡ length f → size ≡ length (r ++ b) → place ≡ length (f ++ y) → count ≡ length r → total ≡ length ((f ++ y) ++ b)
    → take total (turned place count (turned at size ((f ++ (r ++ b)) ++ y))) ≡ f ++ (y ++ b)
parts f r b y at size place count total is behind there gone all =
    ap (λ l. take total (turned place count (turned at size l))) (append_assoc f (r ++ b) y)
    ∙ ap (λ l. take total (turned place count l)) (turned_is f (r ++ b) y at size is behind ∙ sym (append_assoc f y (r ++ b)))
    ∙ ap (take total) (turned_is (f ++ y) r b place count there gone ∙ sym (append_assoc (f ++ y) b r))
    ∙ ap (λ n. take n (((f ++ y) ++ b) ++ r)) all ∙ take-append_seam ((f ++ y) ++ b) r ∙ append_assoc f y b

-- others put after the items, turned to where they belong, and the ones that give way turned to the end
pub put_in_place : {A : Type 0} (xs y : List A) (at count : ℕ) → at + count ≤ length xs
    → take (length xs + length y - count) (turned (at + length y) count (turned at (length xs - at) (xs ++ y))) ≡ take at xs ++ (y ++ drop (at + count) xs)
put_in_place xs y at count inside =
    let f = take at xs in
    let r = take count (drop at xs) in
    let b = drop count (drop at xs) in
    let whole : xs ≡ f ++ (r ++ b) = sym (ap (λ l. f ++ l) (take-append-drop count (drop at xs)) ∙ take-append-drop at xs) in
    let front : length f ≡ at = length-take-le at xs (omega arith) in
    let gone : length r ≡ count = length-take-le count (drop at xs) (omega (arith, length-drop at xs)) in
    let back : length b ≡ length xs - at - count = length-drop count (drop at xs) ∙ ap (λ n. n - count) (length-drop at xs) in
    ap (λ l. take (length xs + length y - count) (turned (at + length y) count (turned at (length xs - at) (l ++ y)))) whole
    ∙ parts f r b y at (length xs - at) (at + length y) count (length xs + length y - count) (sym front) (omega (arith, length-append r b, gone, back)) (omega (arith, length-append f y, front)) (sym gone)
    (omega (arith, length-append (f ++ y) b, length-append f y, front, back))
    ∙ ap (λ l. f ++ (y ++ l)) (drop-drop count at xs)
