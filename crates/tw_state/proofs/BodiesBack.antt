-- Taking the operations of bodies back, the last body first.
use Rattle.std.proofs.Common.{◌≡◌, ℕ, ◌-◌, ◌<◌, ◌≤◌, Bool, true, false, ◌||◌, List, [], ◌∷◌, ◌++◌, length, get_or, take, refl, sym, ap, ◌∙◌}
use Rattle.tw_model.specs.Ops.{TasksValue}
use Rattle.tw_model.specs.LocalOps.{take_back_all}
use Rattle.tw_model.specs.declared.Op.{Op}
use Rattle.tw_state.specs.Touched.{is_about, is_touched}
use Rattle.tw_state.specs.Groups.{group_in, groups_in}
use Rattle.tw_state.specs.declared.pending.Group.{Group}
use Rattle.tw_state.proofs.Soundness.{back-append}
use Rattle.tw_state.proofs.PendingBodies.{up_to}

pub back_more : (bodies : List Group) (at : ℕ) (kept : Group) (ops : List Op) (tasks new whole : TasksValue) → at ≤ length bodies → 0 < at → kept ≡ get_or bodies (at - 1) kept → ops ≡ group_in kept.body.items → new ≡ take_back_all tasks ops
    → take_back_all tasks (groups_in (take at bodies)) ≡ whole → take_back_all new (groups_in (take (at - 1) bodies)) ≡ whole
back_more bodies at kept ops tasks new whole inside some read is e so_far =
    let front = groups_in (take (at - 1) bodies) in
    ap (λ (t : TasksValue). take_back_all t front) (e ∙ ap (take_back_all tasks) is) ∙ sym (back-append tasks front (group_in kept.body.items)) ∙ ap (take_back_all tasks) (sym (up_to bodies at kept inside some read)) ∙ so_far

touched-append : (xs ys : List Op) (u : List ℕ) → is_touched (xs ++ ys) u ≡ is_touched xs u || is_touched ys u
touched-append [] ys u = refl
touched-append (x ∷ xs) ys u = by (is_about u x) (is_touched (xs ++ ys) u) (is_touched xs u) (is_touched ys u) (touched-append xs ys u)
  where
    by : (b m n k : Bool) → m ≡ n || k → b || m ≡ (b || n) || k
    by true m n k e = refl
    by false m n k e = e

pub touched_more : (bodies : List Group) (at : ℕ) (kept : Group) (ops : List Op) (u : List ℕ) (had has whole : Bool) → at ≤ length bodies → 0 < at → kept ≡ get_or bodies (at - 1) kept → ops ≡ group_in kept.body.items → has ≡ had || is_touched ops u
    → had || is_touched (groups_in (take at bodies)) u ≡ whole → has || is_touched (groups_in (take (at - 1) bodies)) u ≡ whole
touched_more bodies at kept ops u had has whole inside some read is e so_far =
    let front = groups_in (take (at - 1) bodies) in
    let own = group_in kept.body.items in
    ap (λ b. b || is_touched front u) (e ∙ ap (λ (l : List Op). had || is_touched l u) is) ∙ turned had (is_touched own u) (is_touched front u)
    ∙ ap (λ b. had || b) (sym (ap (λ (l : List Op). is_touched l u) (up_to bodies at kept inside some read) ∙ touched-append front own u)) ∙ so_far
  where
    turned : (a b c : Bool) → (a || b) || c ≡ a || (c || b)
    turned true b c = refl
    turned false true true = refl
    turned false true false = refl
    turned false false true = refl
    turned false false false = refl
