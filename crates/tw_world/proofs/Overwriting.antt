-- Bytes that are written over others.
use Rattle.std.proofs.Common.{◌≡◌, ℕ, ◌+◌, ◌≤◌, List, ◌++◌, length, take, drop, sym, ◌∙◌, ap, arith, append_assoc, length-append}
use Rattle.std.proofs.lemmas.List.{take_at, drop_at, drop-drop, length-take-le}
use Rattle.tw_world.specs.Disk.{overwritten}

-- two writes, the second right after the first, are one
pub adjacent : (at : ℕ) (a b s : List ℕ) → at + length a + length b ≤ length s → overwritten (at + length a) b (overwritten at a s) ≡ overwritten at (a ++ b) s
adjacent at a b s room =
    let front : length (take at s) ≡ at = length-take-le at s (omega (arith, room)) in
    let both : length (take at s ++ a) ≡ at + length a = omega (arith, front, length-append (take at s) a) in
    let x = overwritten at a s in
    let n : at + length a + length b ≡ at + length (a ++ b) = omega (arith, length-append a b) in
    let e1 : take (at + length a) x ≡ take at s ++ a = take_at (take at s ++ a) (drop (at + length a) s) (at + length a) both in
    let e2 : drop (at + length a + length b) x ≡ drop (at + length (a ++ b)) s =
    sym (drop-drop (length b) (at + length a) x)
    ∙ ap (λ (l : List ℕ). drop (length b) l) (drop_at (take at s ++ a) (drop (at + length a) s) (at + length a) both)
    ∙ drop-drop (length b) (at + length a) s
    ∙ ap (λ (k : ℕ). drop k s) n in
    ap (λ (l : List ℕ). l ++ b ++ drop (at + length a + length b) x) e1
    ∙ ap (λ (l : List ℕ). (take at s ++ a) ++ b ++ l) e2
    ∙ ap (λ (l : List ℕ). l ++ drop (at + length (a ++ b)) s) (append_assoc (take at s) a b)
