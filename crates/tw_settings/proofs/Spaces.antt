-- Texts without the spaces at their ends.
use Rattle.std.proofs.Common.{◌≡◌, ◌≢◌, ℕ, ◌-◌, ◌==◌, Bool, true, false, cond, List, [], ◌∷◌, ◌++◌, Option, Some, None, IfSome, length, take, drop, reverse, refl, arith, lit<, sym, ap, ◌∙◌}
use Rattle.std.proofs.lemmas.Grind.{common_steps}
use Rattle.std.proofs.lemmas.Bool.{eqb-true}
use Rattle.std.proofs.lemmas.List.{reverse-append, reverse-reverse, take-append-drop}
use Rattle.std.proofs.lemmas.Str.Pattern.{drop_at_char}
use Rattle.std.specs.Str.Pattern.{FindsCharPrefix, FindsCharSuffix, CutsPrefixes, CutsSuffixes, IsTrimStartMatches, IsTrimEndMatches}
use lib.Utf8.{encode}
use Rattle.tw_settings.specs.Settings.{front_trimmed}

-- a text that begins with no space is trimmed
unspaced : (xs : List ℕ) → ((rest : List ℕ) → xs ≢ 32 ∷ rest) → front_trimmed xs ≡ xs
unspaced [] none = refl
unspaced (b ∷ bs) none = by (b == 32) (λ e. none bs (ap (λ x. x ∷ bs) (eqb-true b 32 e)))
  where
    by : (t : Bool) → (t ≡ true → ⊥) → cond t (front_trimmed bs) (b ∷ bs) ≡ b ∷ bs
    by true k = absurd (k refl)
    by false k = refl

cut_front : (s r : List ℕ) (n : ℕ) → FindsCharPrefix 32 s (Some n) → r ≡ drop n s → front_trimmed s ≡ front_trimmed r
cut_front s r n at is = let e : s ≡ 32 ∷ r = drop_at_char 32 s 0 n at (lit< tt) ∙ ap (λ t. 32 ∷ t) (sym is) in ap front_trimmed e

cuts_front : (ns s r : List ℕ) → CutsPrefixes (FindsCharPrefix 32) s ns r → front_trimmed s ≡ front_trimmed r
cuts_front [] s r cut = ap front_trimmed (sym cut)
cuts_front (n ∷ ns) s r cut = cuts_front ns s cut.0 cut.1 ∙ cut_front cut.0 r n cut.2 cut.3

done_front : (r : List ℕ) (o : Option ℕ) → FindsCharPrefix 32 r o → IfSome o (λ n. n ≡ 0) → (rest : List ℕ) → r ≢ 32 ∷ rest
unfolding encode
done_front r None none empty rest e = none rest e
done_front r (Some n) at empty rest e = absurd (omega (arith, at.ends, empty))

pub trims_front : (s r : List ℕ) → IsTrimStartMatches (FindsCharPrefix 32) s r → r ≡ front_trimmed s
trims_front s r h = sym (cuts_front h.0.0 s r h.0.1 ∙ unspaced r (done_front r h.1.0 h.1.1 h.1.2))

suffix_is : (s : List ℕ) (n : ℕ) → FindsCharSuffix 32 s (Some n) → s ≡ take (length s - n) s ++ 32 ∷ []
suffix_is s n at =
    let rest : drop (length s - n) s ≡ 32 ∷ drop (length s) s = drop_at_char 32 s (length s - n) (length s) at.1 (lit< tt) in
    let none : drop (length s) s ≡ [] = grind (arith, common_steps) in
    sym (take-append-drop (length s - n) s) ∙ ap (λ t. take (length s - n) s ++ t) (rest ∙ ap (λ t. 32 ∷ t) none)

cut_end : (s r : List ℕ) (n : ℕ) → FindsCharSuffix 32 s (Some n) → r ≡ take (length s - n) s → front_trimmed (reverse s) ≡ front_trimmed (reverse r)
cut_end s r n at is =
    let e : s ≡ r ++ 32 ∷ [] = suffix_is s n at ∙ ap (λ t. t ++ 32 ∷ []) (sym is) in
    ap (λ t. front_trimmed (reverse t)) e ∙ ap front_trimmed (reverse-append r (32 ∷ []))

cuts_end : (ns s r : List ℕ) → CutsSuffixes (FindsCharSuffix 32) s ns r → front_trimmed (reverse s) ≡ front_trimmed (reverse r)
cuts_end [] s r cut = ap (λ t. front_trimmed (reverse t)) (sym cut)
cuts_end (n ∷ ns) s r cut = cuts_end ns s cut.0 cut.1 ∙ cut_end cut.0 r n cut.2 cut.3

done_end : (r : List ℕ) (o : Option ℕ) → FindsCharSuffix 32 r o → IfSome o (λ n. n ≡ 0) → (rest : List ℕ) → reverse r ≢ 32 ∷ rest
unfolding encode
done_end r None none empty rest e = none (reverse rest) (sym (reverse-reverse r) ∙ ap reverse e ∙ reverse-append (32 ∷ []) rest)
done_end r (Some n) at empty rest e = absurd (omega (arith, at.0, empty))

pub trims_end : (s r : List ℕ) → IsTrimEndMatches (FindsCharSuffix 32) s r → r ≡ reverse (front_trimmed (reverse s))
trims_end s r h =
    sym (reverse-reverse r) ∙ ap reverse (sym (cuts_end h.0.0 s r h.0.1 ∙ unspaced (reverse r) (done_end r h.1.0 h.1.1 h.1.2)))
