-- A line that is told, unless there is none.
use Rattle.std.proofs.Common.{◌≡◌, ◌∙◌, inl, inr, ℕ, ◌+◌, ◌≤◌, ◌==◌, ◌++◌, Bool, true, false, List, [], ◌∷◌, take, length, length-append, append_assoc, refl, sym, ap, subst, IsTrue, arith}
use Rattle.std.proofs.lemmas.Bool.{eqb-true}
use Rattle.std.proofs.lemmas.List.{take-append-le}
use Rattle.std.proofs.Math.Seq.{take-append-add}
use Rattle.tw_world.specs.Disk.{Rose}
use Rattle.tw_world.specs.Sink.{SinkModel, SinkKept, TellsHeld, Got, GotPart}
use Rattle.tw_ending.specs.Lines.{GotLine, GotAny}

module _ {E : Type 0} (s : SinkModel E) where
  pub any_line : (e0 e1 : E) (line text : List ℕ) (empty : Bool) → text ≡ line → empty ≡ (length text == 0) → empty ≡ false → GotLine s e0 e1 line → GotAny s e0 e1 line
  any_line e0 e1 [] text empty is says full got = absurd (by (says ∙ ap (λ t. length t == 0) is) full)
    where
      by : empty ≡ true → empty ≡ false → ⊥
      by t f = absurd (cc)
  any_line e0 e1 (b ∷ bs) text empty is says full got = got

  pub no_line : (e : E) (line text : List ℕ) (empty : Bool) → text ≡ line → empty ≡ (length text == 0) → empty ≡ true → GotAny s e e line
  no_line e [] text empty is says none = refl
  no_line e (b ∷ bs) text empty is says none = let z : length (b ∷ bs) ≡ 0 = eqb-true (length (b ∷ bs)) 0 (sym (ap (λ t. length t == 0) is) ∙ sym says ∙ none) in absurd (omega (arith, z))

  -- a piece that was written, and then the rest of its line
  pub piece_then : (e0 e1 e2 : E) (piece rest : List ℕ) → SinkKept s e0 e1 → Got s e0 e1 piece → GotLine s e1 e2 rest → GotLine s e0 e2 (piece ++ rest)
  piece_then e0 e1 e2 piece rest kept got (inl whole) = inl (λ tells. whole (subst IsTrue (sym kept.tells) tells) ∙ ap (λ h. h ++ rest) (got tells) ∙ append_assoc (s.held e0) piece rest)
  piece_then e0 e1 e2 piece rest kept got (inr failed) = inr (omega (arith, kept.faults, failed.0), λ tells. by tells (failed.1 (subst IsTrue (sym kept.tells) tells)))
    where
      by : TellsHeld s e0 → (n : ℕ) × (n ≤ length rest) × (s.held e2 ≡ s.held e1 ++ take n rest) → (n : ℕ) × (n ≤ length (piece ++ rest)) × (s.held e2 ≡ s.held e0 ++ take n (piece ++ rest))
      by tells part =
          let most : length (piece ++ rest) ≡ length piece + length rest = length-append piece rest in
          (length piece + part.0, omega (arith, most, part.1), part.2 ∙ ap (λ h. h ++ take part.0 rest) (got tells) ∙ append_assoc (s.held e0) piece (take part.0 rest) ∙ ap (λ t. s.held e0 ++ t) (sym (take-append-add piece rest part.0)))

  -- a piece of which a front part was written
  pub piece_fails : (e0 e1 : E) (piece rest : List ℕ) → Rose (s.faults e0) (s.faults e1) → GotPart s e0 e1 piece → GotLine s e0 e1 (piece ++ rest)
  piece_fails e0 e1 piece rest rose part = inr (rose, λ tells. by (part tells))
    where
      by : (n : ℕ) × (n ≤ length piece) × (s.held e1 ≡ s.held e0 ++ take n piece) → (n : ℕ) × (n ≤ length (piece ++ rest)) × (s.held e1 ≡ s.held e0 ++ take n (piece ++ rest))
      by p =
          let most : length (piece ++ rest) ≡ length piece + length rest = length-append piece rest in
          (p.0, omega (arith, most, p.1), p.2 ∙ ap (λ t. s.held e0 ++ t) (sym (take-append-le p.0 piece rest p.1)))
