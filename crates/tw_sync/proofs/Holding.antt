-- Whether groups hold an operation, one group after another.
use Rattle.std.proofs.Common.{◌≡◌, ℕ, ◌+◌, ◌<◌, length, drop, get_or, List, [], ◌∷◌, ◌++◌, refl, sym, ap, ◌∙◌, arith, length-append}
use Rattle.std.specs.Global.{Vec}
use Rattle.tw_model.specs.declared.SyncOp.{SyncOp}
use Rattle.tw_groups.specs.Groups.{joined}
use Rattle.tw_groups.specs.Held.{groups_in}
use Rattle.tw_path.proofs.Batching.{behind_turn}

none_of : (xs : List SyncOp) → length xs ≡ 0 → xs ≡ []
none_of [] e = refl
none_of (x ∷ xs) e = absurd (omega (arith, e))

here : (vs : List (Vec SyncOp)) (at : ℕ) (v : Vec SyncOp) → at < length vs → v ≡ get_or vs at v → joined (groups_in (drop at vs)) ≡ v.items ++ joined (groups_in (drop (at + 1) vs))
here vs at v inside is = ap joined (behind_turn vs at v inside is)

-- a group that holds none is passed
pub none_here : (vs : List (Vec SyncOp)) (at : ℕ) (v : Vec SyncOp) → at < length vs → v ≡ get_or vs at v → length v.items ≡ 0 → joined (groups_in (drop (at + 1) vs)) ≡ joined (groups_in (drop at vs))
none_here vs at v inside is empty = sym (here vs at v inside is ∙ ap (λ xs. xs ++ joined (groups_in (drop (at + 1) vs))) (none_of v.items empty))

-- one that holds some
pub held_here : (vs : List (Vec SyncOp)) (at : ℕ) (v : Vec SyncOp) → at < length vs → v ≡ get_or vs at v → ¬ (length v.items ≡ 0) → joined (groups_in (drop at vs)) ≡ [] → ⊥
held_here vs at v inside is some none =
    let a = ap length (sym (here vs at v inside is) ∙ none) in
    let b = length-append v.items (joined (groups_in (drop (at + 1) vs))) in
    some (omega (arith, a, b))
