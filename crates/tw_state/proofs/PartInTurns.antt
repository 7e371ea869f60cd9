-- Going over the uuids of a part, one after another.
use Rattle.std.proofs.Common.{◌≡◌, ℕ, zero, suc, ◌+◌, ◌<◌, Bool, true, false, cond, ◌||◌, List, [], ◌∷◌, length, drop, get_or, Some, None, is_some, is_none, refl, sym, ap, subst, ◌∙◌, arith}
use Rattle.std.proofs.lemmas.List.{drop_more}
use Rattle.std.specs.declared.cmp.Ordering.TheVariants.{Less}
use Rattle.std.specs.Ordering.{eq_by_cmp, is_eq}
use Rattle.std.specs.List.{AllByRecursion}
use Rattle.std.specs.List.Sorted.{IsStrictlySortedBy}
use Rattle.std.specs.FinMap.{get, empty, insert, get-empty}
use Rattle.tw_model.specs.Maps.{bytes_cmp, same_bytes, set_at, set_if_none}
use Rattle.tw_model.proofs.Maps.{get-set_at_apart}
use Rattle.tw_model.specs.Ops.{TaskValue, TasksValue}
use Rattle.tw_numbers.specs.Assigned.{is_among}
use Rattle.tw_state.specs.Part.{with_part, taken_out, with_room, AgreeAmong, HasNone, HasRoom}
use Rattle.tw_numbers.proofs.Ranks.{same_uuid, same_key, itself}
use Rattle.tw_state.proofs.PartsTogether.{get-with_part, merged}
use Rattle.tw_numbers.proofs.AlikeOnPart.{or_first, or_second}

-- ---- in their order

above : (u : List ℕ) (us : List (List ℕ)) → AllByRecursion (λ y. bytes_cmp u y ≡ Less) us → (v : List ℕ) → is_among us v ≡ true → bytes_cmp u v ≡ Less
above u [] h v inside = absurd cc
above u (w ∷ us) h v inside = by (eq_by_cmp bytes_cmp v w) refl inside (above u us h.1 v)
  where
    by : (b : Bool) → eq_by_cmp bytes_cmp v w ≡ b → b || is_among us v ≡ true → (is_among us v ≡ true → bytes_cmp u v ≡ Less) → bytes_cmp u v ≡ Less
    by true e i rest = ap (bytes_cmp u) (same_key v w e) ∙ h.0
    by false e i rest = rest i

ordered_apart : (u : List ℕ) (us : List (List ℕ)) → IsStrictlySortedBy bytes_cmp (u ∷ us) → (v : List ℕ) → is_among us v ≡ true → same_bytes v u ≡ false
unfolding IsStrictlySortedBy
ordered_apart u us h v inside = by (same_bytes v u) refl
  where
    by : (b : Bool) → same_bytes v u ≡ b → b ≡ false
    by true e = sym (itself u) ∙ ap is_eq (ap (bytes_cmp u) (sym (same_uuid v u e)) ∙ above u us h.0 v inside)
    by false e = refl

ordered_rest : (u : List ℕ) (us : List (List ℕ)) → IsStrictlySortedBy bytes_cmp (u ∷ us) → IsStrictlySortedBy bytes_cmp us
unfolding IsStrictlySortedBy
ordered_rest u us h = h.1

module _ (before rest : List (List ℕ)) (u : List ℕ) (next : before ≡ u ∷ rest) where
  pub first_inside : is_among before u ≡ true
  first_inside = ap (λ (us : List (List ℕ)). is_among us u) next ∙ or_first (eq_by_cmp bytes_cmp u u) (is_among rest u) (itself u)

  rest_inside : (v : List ℕ) → is_among rest v ≡ true → is_among before v ≡ true
  rest_inside v inside = ap (λ (us : List (List ℕ)). is_among us v) next ∙ or_second (eq_by_cmp bytes_cmp v u) (is_among rest v) inside

  -- one task more is put in the place of what was there
  pub taken_more : (part tasks new whole : TasksValue) → new ≡ set_at tasks u (get part u) → with_part before part tasks ≡ whole → with_part rest part new ≡ whole
  taken_more part tasks new whole e so_far = ap (with_part rest part) e ∙ ap (λ (us : List (List ℕ)). with_part us part tasks) (sym next) ∙ so_far

  module _ (ordered : IsStrictlySortedBy bytes_cmp before) where
    pub ordered_more : IsStrictlySortedBy bytes_cmp rest
    ordered_more = ordered_rest u rest (subst (IsStrictlySortedBy bytes_cmp) next ordered)

    -- those that are left have what they had
    pub left_same : (tasks new : TasksValue) (x : _) → new ≡ set_at tasks u x → AgreeAmong rest new tasks
    left_same tasks new x e v inside = ap (λ (t : TasksValue). get t v) e ∙ get-set_at_apart tasks u x v (ordered_apart u rest (subst (IsStrictlySortedBy bytes_cmp) next ordered) v inside)

    pub left_free : (tasks new : TasksValue) (x : _) → new ≡ set_at tasks u x → HasNone before tasks → HasNone rest new
    left_free tasks new x e free v inside = left_same tasks new x e v inside ∙ free v (rest_inside v inside)

    pub left_agree : (part tasks new : TasksValue) (x : _) → new ≡ set_at tasks u x → AgreeAmong before tasks part → AgreeAmong rest new part
    left_agree part tasks new x e agree v inside = left_same tasks new x e v inside ∙ agree v (rest_inside v inside)

    pub left_room : (part tasks new : TasksValue) (x : _) → new ≡ set_at tasks u x → HasRoom before part tasks → HasRoom rest part new
    left_room part tasks new x e room v inside there = ap is_some (left_same tasks new x e v inside) ∙ room v (rest_inside v inside) there

-- ---- by their places in a list

among_at : (us : List (List ℕ)) (at : ℕ) (u : List ℕ) → at < length us → u ≡ get_or us at u → is_among us u ≡ true
among_at [] at u lt here = absurd (omega arith)
among_at (w ∷ us) zero u lt here = or_first (eq_by_cmp bytes_cmp u w) (is_among us u) (ap (eq_by_cmp bytes_cmp u) (sym here) ∙ itself u)
among_at (w ∷ us) (suc at) u lt here = or_second (eq_by_cmp bytes_cmp u w) (is_among us u) (among_at us at u (omega arith) here)

module _ (us : List (List ℕ)) (at : ℕ) (u : List ℕ) (lt : at < length us) (here : u ≡ get_or us at u) where
  next_is : drop at us ≡ u ∷ drop (at + 1) us
  next_is = drop_more us at u lt ∙ ap (λ (v : List ℕ). v ∷ drop (at + 1) us) (sym here)

  pub out_more : (tasks new whole : TasksValue) → new ≡ set_at tasks u None → taken_out (drop at us) tasks ≡ whole → taken_out (drop (at + 1) us) new ≡ whole
  out_more tasks new whole e so_far = taken_more (drop at us) (drop (at + 1) us) u next_is empty tasks new whole (e ∙ ap (set_at tasks u) (sym (get-empty bytes_cmp u))) so_far

  pub room_more : (tasks new whole : TasksValue) → new ≡ set_if_none tasks u empty → with_room (drop at us) tasks ≡ whole → with_room (drop (at + 1) us) new ≡ whole
  room_more tasks new whole e so_far = ap (with_room (drop (at + 1) us)) e ∙ ap (λ (vs : List (List ℕ)). with_room vs tasks) (sym next_is) ∙ so_far

  -- the others have what they had
  pub others_same : (tasks new whole : TasksValue) (x : TaskValue) → new ≡ set_if_none tasks u x → taken_out us tasks ≡ whole → taken_out us new ≡ whole
  others_same tasks new whole x e so_far =
      ap (taken_out us) e
      ∙ merged us empty (set_if_none tasks u x) (taken_out us tasks)
      (λ v inside. sym (get-with_part us empty tasks v ∙ ap (λ b. cond b (get {R = bytes_cmp} empty v) (get tasks v)) inside))
      (λ v outside. get-with_part us empty tasks v ∙ ap (λ b. cond b (get {R = bytes_cmp} empty v) (get tasks v)) outside ∙ sym (unset v outside (is_none (get tasks u))))
      ∙ so_far
    where
      apart : (v : List ℕ) → is_among us v ≡ false → (b : Bool) → same_bytes v u ≡ b → b ≡ false
      apart v outside true e = sym (among_at us at u lt here) ∙ ap (is_among us) (sym (same_uuid v u e)) ∙ outside
      apart v outside false e = refl

      unset : (v : List ℕ) → is_among us v ≡ false → (b : Bool) → get (cond b (insert tasks u x) tasks) v ≡ get tasks v
      unset v outside true = get-set_at_apart tasks u (Some x) v (apart v outside (same_bytes v u) refl)
      unset v outside false = refl
