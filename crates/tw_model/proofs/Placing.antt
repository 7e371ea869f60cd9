-- Numbers of tasks, place by place.
use Rattle.std.proofs.Common.{◌≡◌, ℕ, zero, suc, ◌+◌, ◌<◌, ◌≤◌, Bool, true, false, cond, List, [], ◌∷◌, length, drop, get_or, Option, Some, None, refl, sym, ap, ◌∙◌, arith}
use Rattle.std.proofs.lemmas.List.{drop_more, drop_all}
use Rattle.tw_model.specs.Places.{Places, has_uuid, id_from, uuid_at}

-- the uuid at a place
pub uuid_at_get : (places : Places) (at : ℕ) (d : Option (List ℕ)) → at < length places → d ≡ get_or places at d → d ≡ uuid_at at places
uuid_at_get places at d lt here = here ∙ go places at lt
  where
    go : (xs : Places) (i : ℕ) → i < length xs → get_or xs i d ≡ uuid_at i xs
    go [] i lt = absurd (omega arith)
    go (x ∷ xs) zero lt = refl
    go (x ∷ xs) (suc i) lt = go xs i (omega arith)

pub uuid_at_end : (places : Places) (at : ℕ) → length places ≤ at → None ≡ uuid_at at places
uuid_at_end [] at le = refl
uuid_at_end (x ∷ xs) zero le = absurd (omega arith)
uuid_at_end (x ∷ xs) (suc at) le = uuid_at_end xs at (omega arith)

-- the places before this one do not have the uuid
pub id_more : (places : Places) (u : List ℕ) (at : ℕ) (place : Option (List ℕ)) (r : Bool) (whole : Option ℕ) → at < length places → place ≡ get_or places at place → r ≡ has_uuid u place → r ≡ false
    → id_from (at + 1) u (drop at places) ≡ whole → id_from (at + 1 + 1) u (drop (at + 1) places) ≡ whole
id_more places u at place r whole lt here has is so_far =
    let next : drop at places ≡ place ∷ drop (at + 1) places = drop_more places at place lt ∙ ap (λ (p : Option (List ℕ)). p ∷ drop (at + 1) places) (sym here) in
    ap (λ b. cond b (Some (at + 1)) (id_from (at + 1 + 1) u (drop (at + 1) places))) (sym is ∙ has) ∙ ap (id_from (at + 1) u) (sym next) ∙ so_far

pub id_found : (places : Places) (u : List ℕ) (at : ℕ) (place : Option (List ℕ)) (r : Bool) (whole : Option ℕ) → at < length places → place ≡ get_or places at place → r ≡ has_uuid u place → r ≡ true
    → id_from (at + 1) u (drop at places) ≡ whole → Some (at + 1) ≡ whole
id_found places u at place r whole lt here has is so_far =
    let next : drop at places ≡ place ∷ drop (at + 1) places = drop_more places at place lt ∙ ap (λ (p : Option (List ℕ)). p ∷ drop (at + 1) places) (sym here) in
    ap (λ b. cond b (Some (at + 1)) (id_from (at + 1 + 1) u (drop (at + 1) places))) (sym is ∙ has) ∙ ap (id_from (at + 1) u) (sym next) ∙ so_far

pub id_end : (places : Places) (u : List ℕ) (at : ℕ) (whole : Option ℕ) → length places ≤ at → id_from (at + 1) u (drop at places) ≡ whole → None ≡ whole
id_end places u at whole le so_far = ap (id_from (at + 1) u) (sym (drop_all at places le)) ∙ so_far
