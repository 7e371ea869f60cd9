-- The first line of bytes, looked for byte by byte.
use Rattle.std.proofs.Common.{◌≡◌, ℕ, ◌+◌, ◌<◌, ◌≤◌, ◌==◌, true, false, cond, List, [], ◌∷◌, ◌++◌, take, drop, length, get_or, refl, sym, ap, ◌∙◌, append_assoc, append-nil}
use Rattle.std.proofs.lemmas.List.{take_more, drop_more, take_all, drop_all}
use Rattle.tw_hooks.specs.Answer.{first_line}

-- a byte that ends no line
pub line_more : (bytes : List ℕ) (n b : ℕ) → n < length bytes → b ≡ get_or bytes n b → (b == 10) ≡ false → take n bytes ++ first_line (drop n bytes) ≡ first_line bytes → take (n + 1) bytes ++ first_line (drop (n + 1) bytes) ≡ first_line bytes
line_more bytes n b lt is other so_far =
    ap (λ l. l ++ first_line (drop (n + 1) bytes)) (take_more bytes n b lt ∙ ap (λ x. take n bytes ++ x ∷ []) (sym is))
    ∙ append_assoc (take n bytes) (b ∷ []) (first_line (drop (n + 1) bytes))
    ∙ ap (λ l. take n bytes ++ l) (sym (ap first_line (drop_more bytes n b lt ∙ ap (λ x. x ∷ drop (n + 1) bytes) (sym is)) ∙ ap (λ t. cond t [] (b ∷ first_line (drop (n + 1) bytes))) other))
    ∙ so_far

-- the byte that ends the first line
pub line_ends : (bytes : List ℕ) (n b : ℕ) → n < length bytes → b ≡ get_or bytes n b → (b == 10) ≡ true → take n bytes ++ first_line (drop n bytes) ≡ first_line bytes → take n bytes ≡ first_line bytes
line_ends bytes n b lt is end so_far =
    sym (append-nil (take n bytes))
    ∙ ap (λ l. take n bytes ++ l) (sym (ap first_line (drop_more bytes n b lt ∙ ap (λ x. x ∷ drop (n + 1) bytes) (sym is)) ∙ ap (λ t. cond t [] (b ∷ first_line (drop (n + 1) bytes))) end))
    ∙ so_far

-- no byte ends it
pub no_end : (bytes : List ℕ) (n : ℕ) → length bytes ≤ n → take n bytes ++ first_line (drop n bytes) ≡ first_line bytes → bytes ≡ first_line bytes
no_end bytes n all so_far = sym (append-nil bytes ∙ refl) ∙ (λ i. sym (take_all n bytes all) i ++ first_line (sym (drop_all n bytes all) i)) ∙ so_far
