-- The numbers in a range, found by going over places from the last to the first.
use Rattle.std.proofs.Common.{◌≡◌, ℕ, ◌+◌, ◌<◌, min, nat_le, Bool, true, false, cond, ◌&&◌, List, [], ◌∷◌, length, drop, Some, None, refl, sym, ap, ◌∙◌, inl, inr, arith}
use Rattle.std.proofs.lemmas.Bool.{lt-leb, cases_lt}
use Rattle.std.proofs.lemmas.List.{drop_all}
use Rattle.std.specs.Map.{lookup}
use Rattle.std.specs.BTreeMap as tree
use Rattle.tw_model.specs.Maps.{bytes_cmp}
use Rattle.tw_model.specs.Places.{Places, has_uuid, id_from}
use Rattle.tw_terms.specs.Facts.{within}

never : {A : Type 0} (a : Bool) (x : A) → cond (a && false) (Some x) None ≡ None
never true x = refl
never false x = refl

-- after the range there is no number of it
none_after : (first last n : ℕ) (u : List ℕ) (places : Places) → last < n → within first last (id_from n u places) ≡ None
none_after first last n u [] lt = refl
none_after first last n u (place ∷ places) lt = by (has_uuid u place) (none_after first last (n + 1) u places (omega arith))
  where
    by : (b : Bool) → within first last (id_from (n + 1) u places) ≡ None → within first last (cond b (Some n) (id_from (n + 1) u places)) ≡ None
    by true rest = ap (λ b. cond (nat_le first n && b) (Some n) None) (lt-leb n last lt) ∙ never (nat_le first n) n
    by false rest = rest

none_yet : (ids : tree.BTreeMap (List ℕ) ℕ) (u : List ℕ) → ids.entries ≡ [] → tree.get bytes_cmp ids u ≡ None
none_yet ids u empty = ap (λ es. lookup (tree.is_at (bytes_cmp u)) es) empty

pub begins : (first last at : ℕ) (u : List ℕ) (places : Places) (ids : tree.BTreeMap (List ℕ) ℕ) → ids.entries ≡ [] → at ≡ min last (length places)
    → tree.get bytes_cmp ids u ≡ within first last (id_from (at + 1) u (drop at places))
begins first last at u places ids empty is =
    none_yet ids u empty
    ∙ elim (cases_lt last (length places)) [
      | inl lt ↦ sym (none_after first last (at + 1) u (drop at places) (omega (arith, is)))
      | inr ge ↦ ap (λ ps. within first last (id_from (at + 1) u ps)) (sym (drop_all at places (omega (arith, is))))
    ]
