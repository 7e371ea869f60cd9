-- Lists that are gathered item by item.
use Rattle.std.proofs.Common.{◌≡◌, ◌∙◌, ap, sym, ℕ, ◌+◌, ◌<◌, ◌≤◌, List, [], ◌∷◌, ◌++◌, drop, get_or, length, append_assoc}
use Rattle.std.proofs.lemmas.List.{at_drop_more, at_drop_all, append-nil}

module _ {A B : Type 0} (F : List A → List B) (f : A → List B) (one : (x : A) (xs : List A) → F (x ∷ xs) ≡ f x ++ F xs) where
  -- what is gathered so far, and what the items that are left give, is still all once one more is gathered
  pub one_gathered : (xs : List A) (i : ℕ) (x : A) (done new whole : List B) → i < length xs → x ≡ get_or xs i x → new ≡ done ++ f x → done ++ F (drop i xs) ≡ whole
      → new ++ F (drop (i + 1) xs) ≡ whole
  one_gathered xs i x done new whole within is put so_far =
      let rest = drop (i + 1) xs in
      ap (λ l. l ++ F rest) put ∙ append_assoc done (f x) (F rest)
      ∙ ap (λ l. done ++ l) (sym (at_drop_more F xs i x within ∙ (λ k. F (sym is k ∷ rest)) ∙ one x rest)) ∙ so_far

  -- what is gathered at the end is all
  pub all_gathered : F [] ≡ [] → (xs : List A) (i : ℕ) (done whole : List B) → length xs ≤ i → done ++ F (drop i xs) ≡ whole → done ≡ whole
  all_gathered nothing xs i done whole past so_far = sym (append-nil done) ∙ ap (λ l. done ++ l) (sym (at_drop_all F xs i past ∙ nothing)) ∙ so_far
