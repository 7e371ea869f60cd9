-- A task that is as it was, or has another `modified` and another property.
use Rattle.std.proofs.Common.{◌≡◌, ◌∙◌, ap, sym, refl, subst, ℕ, Bool, true, false, cond, List, [], ◌∷◌, Some, codes, ◌&&◌, ◌⊎◌, inl, inr}
use Rattle.std.specs.Fmt.{decimal}
use Rattle.std.specs.FinMap.{get, insert, entries}
use Rattle.tw_world.specs.declared.Moment.{Moment}
use Rattle.tw_model.specs.Maps.{same_bytes}
use Rattle.tw_model.specs.Ops.{TaskValue}
use Rattle.tw_model.proofs.Maps.{same_bytes_exact, same_bytes_itself, get-set_at_apart, same_maps, get-set_at_here}
use Rattle.tw_commands.specs.Laws.{IsSameButModified, MovesExactly}
use lib.Pointwise.{pointwise}
use Rattle.tw_model.specs.LocalOps.{same_property, same_task}
use Rattle.tw_model.proofs.LocalOps.{same_task_exact}
use Rattle.tw_changes.specs.Stamps.{stamped}
use Rattle.tw_changes.proofs.KeptProperties.{Keeps}

abbrev pub modified : List ℕ
modified = codes "modified"

-- it has the moment, and another property differs
pub record IsMoved (now : Moment) (before after : TaskValue) : Type 0 where
  pub moment : get after modified ≡ Some (decimal now.seconds)
  pub other : IsSameButModified before after → ⊥

abbrev pub IsExact : Moment → (before after : TaskValue) → Type 0
IsExact now before after = (after ≡ before) ⊎ IsMoved now before after

pub exactly : (now : Moment) (before after : TaskValue) → IsExact now before after → MovesExactly now before after
exactly now before after (inl same) = record { moved = λ p apart differs. absurd (differs (ap (λ (t : TaskValue). get t p) same)); still = λ others. same }
exactly now before after (inr is) = record { moved = λ p apart differs. is.moment; still = λ others. absurd (is.other others) }

same_lists_itself : (xs : List (List ℕ × List ℕ)) → pointwise same_property xs xs ≡ true
same_lists_itself [] = refl
same_lists_itself (x ∷ xs) =
    ap (λ b. (b && same_bytes x.1 x.1) && pointwise same_property xs xs) (same_bytes_itself x.0)
    ∙ ap (λ b. b && pointwise same_property xs xs) (same_bytes_itself x.1) ∙ same_lists_itself xs

not_apart : (before after : TaskValue) → same_task before after ≡ false → after ≡ before → ⊥
not_apart before after apart same =
    let itself : same_task before before ≡ true = same_lists_itself (entries before) in
    let is : same_task before after ≡ true = ap (same_task before) same ∙ itself in
    absurd cc

-- tasks that agree in `modified` and in all other properties
same_all : (x y : TaskValue) → Keeps modified y x → IsSameButModified y x → x ≡ y
same_all x y here others = same_maps x y (λ p. by p (same_bytes p modified) refl)
  where
    by : (p : List ℕ) (b : Bool) → same_bytes p modified ≡ b → get x p ≡ get y p
    by p true is = subst (λ (q : List ℕ). get x q ≡ get y q) (sym (same_bytes_exact p modified is)) here
    by p false is = others p is

-- a task that is as it was, or moved, is stamped after a further change that does not give back what differed
pub stamped_exact : (now : Moment) (first before after : TaskValue) → IsExact now first before → Keeps modified before after → (IsSameButModified first after → IsSameButModified first before)
    → IsExact now first (stamped now before after)
stamped_exact now first before after is keeps back = by (same_task before after) refl
  where
    unmoved : IsSameButModified first (insert after modified (decimal now.seconds)) → IsSameButModified first after
    unmoved others = λ p apart. sym (get-set_at_apart after modified (Some (decimal now.seconds)) p apart) ∙ others p apart

    other : IsExact now first before → same_task before after ≡ false → IsSameButModified first (insert after modified (decimal now.seconds)) → ⊥
    other (inr was) apart others = was.other (back (unmoved others))
    other (inl was) apart others = not_apart before after apart (same_all after first (keeps ∙ ap (λ (t : TaskValue). get t modified) was) (unmoved others) ∙ sym was)

    by : (same : Bool) → same_task before after ≡ same → IsExact now first (cond same after (insert after modified (decimal now.seconds)))
    by true same = subst (λ (t : TaskValue). IsExact now first t) (same_task_exact before after same) is
    by false apart = inr (record { moment = get-set_at_here after modified (Some (decimal now.seconds)); other = other is apart })
