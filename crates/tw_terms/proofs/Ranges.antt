-- The tokens of an id word.
use Rattle.std.proofs.Common.{◌≡◌, ℕ, true, List, [], ◌∷◌, ◌++◌, map, Option, Some, None, is_some, IfSome, refl, ap, ◌∙◌}
use Rattle.tw_terms.specs.declared.id_word.Name.{Name}
use Rattle.tw_terms.specs.declared.token.Token.{Token}
use Rattle.tw_terms.specs.declared.token.Token.TheVariants.{Named}
use Rattle.tw_terms.specs.IdWords.{range_in, ranges_in, with_name}
use Rattle.tw_terms.specs.Tokens.{ranged, put_name, PushesNames}

same : (texts : List (List ℕ)) → IfSome (ranges_in texts) (λ names. ranged texts ≡ map Named names)
same [] = refl
same (text ∷ texts) = by (range_in text) (ranges_in texts) (same texts)
  where
    by : (name : Option Name) (rest : Option (List Name)) → IfSome rest (λ names. ranged texts ≡ map Named names) → IfSome (with_name name rest) (λ names. put_name name (ranged texts) ≡ map Named names)
    by None rest h = tt
    by (Some name) None h = tt
    by (Some name) (Some names) h = ap (λ xs. Named name ∷ xs) h

-- where all are ranges, all of them were added
pub all_ranges : (texts : List (List ℕ)) (old new : List Token) → is_some (ranges_in texts) ≡ true → new ≡ old ++ ranged texts → PushesNames (ranges_in texts) true old new
all_ranges texts old new are e = by (ranges_in texts) are (same texts)
  where
    by : (o : Option (List Name)) → is_some o ≡ true → IfSome o (λ names. ranged texts ≡ map Named names) → PushesNames o true old new
    by None are h = absurd (cc)
    by (Some names) are h = (refl, e ∙ ap (λ xs. old ++ xs) h)
