-- Groups as the code holds them, one after another.
use Rattle.std.proofs.Common.{◌≡◌, ℕ, ◌+◌, ◌<◌, arith, List, [], ◌∷◌, ◌++◌, length, take, drop, get_or, refl, sym, ap, ◌∙◌}
use Rattle.std.proofs.lemmas.List.{append_assoc, drop_more, take-append-drop}
use Rattle.std.specs.Global.{Vec}
use Rattle.tw_model.specs.Ops.{TasksValue, apply_all}
use Rattle.tw_model.specs.declared.Op.{Op}
use Rattle.tw_model.specs.declared.Op.TheVariants.{UndoPoint}
use Rattle.tw_model.specs.declared.SyncOp.{SyncOp}
use Rattle.tw_model.proofs.Ops.{apply_all-append}
use Rattle.tw_groups.specs.Groups.{Groups, joined, renewed, pending_on}
use Rattle.tw_groups.specs.Cross.{cross}
use Rattle.tw_groups.specs.Held.{groups_in}

at_turn : {A : Type 0} (xs : List A) (at : ℕ) (x : A) → at < length xs → x ≡ get_or xs at x → drop at xs ≡ x ∷ drop (at + 1) xs
at_turn xs at x inside is = drop_more xs at x inside ∙ ap (λ y. y ∷ drop (at + 1) xs) (sym is)

-- ---- with nothing left of the server's

pub cross_none : (gs : Groups) → cross [] gs ≡ ([], gs)
cross_none [] = refl
cross_none (g ∷ gs) = ap (λ (h : List SyncOp × Groups). (h.0, g ∷ h.1)) (cross_none gs)

in-append : (xs ys : List (Vec SyncOp)) → groups_in (xs ++ ys) ≡ groups_in xs ++ groups_in ys
in-append [] ys = refl
in-append (x ∷ xs) ys = ap (λ zs. x.items ∷ zs) (in-append xs ys)

pub crossed_all : (server : List SyncOp) (gs : List (Vec SyncOp)) (at : ℕ) (all : List SyncOp × Groups) → server ≡ []
    → all ≡ (let rest = cross server (groups_in (drop at gs)) in (rest.0, groups_in (take at gs) ++ rest.1)) → (server, groups_in gs) ≡ all
crossed_all server gs at all none e =
    let back : ([], groups_in (take at gs) ++ groups_in (drop at gs)) ≡ (let rest = cross server (groups_in (drop at gs)) in (rest.0, groups_in (take at gs) ++ rest.1)) =
    ap (λ (h : List SyncOp × Groups). (h.0, groups_in (take at gs) ++ h.1)) (sym (ap (λ ss. cross ss (groups_in (drop at gs))) none ∙ cross_none (groups_in (drop at gs)))) in
    ap (λ ss. (ss, groups_in gs)) none
    ∙ ap (λ zs. ([], zs)) (ap groups_in (sym (take-append-drop at gs)) ∙ in-append (take at gs) (drop at gs))
    ∙ back ∙ sym e

-- ---- one group more

pub group_turn : (ops now : List Op) (t after : TasksValue) (gs : List (Vec SyncOp)) (at : ℕ) (g : Vec SyncOp) (all : List Op) → at < length gs → g ≡ get_or gs at g
    → now ≡ ops ++ UndoPoint ∷ renewed t g.items → after ≡ apply_all t g.items → ops ++ pending_on t (groups_in (drop at gs)) ≡ all → now ++ pending_on after (groups_in (drop (at + 1) gs)) ≡ all
group_turn ops now t after gs at g all inside is e f h =
    let more : List Op = pending_on (apply_all t g.items) (groups_in (drop (at + 1) gs)) in
    ap (λ zs. zs ++ pending_on after (groups_in (drop (at + 1) gs))) e
    ∙ ap (λ (w : TasksValue). (ops ++ UndoPoint ∷ renewed t g.items) ++ pending_on w (groups_in (drop (at + 1) gs))) f
    ∙ append_assoc ops (UndoPoint ∷ renewed t g.items) more
    ∙ ap (λ vs. ops ++ pending_on t (groups_in vs)) (sym (at_turn gs at g inside is))
    ∙ h

pub tasks_turn : (t after : TasksValue) (gs : List (Vec SyncOp)) (at : ℕ) (g : Vec SyncOp) (all : TasksValue) → at < length gs → g ≡ get_or gs at g
    → after ≡ apply_all t g.items → apply_all t (joined (groups_in (drop at gs))) ≡ all → apply_all after (joined (groups_in (drop (at + 1) gs))) ≡ all
tasks_turn t after gs at g all inside is f h =
    ap (λ (w : TasksValue). apply_all w (joined (groups_in (drop (at + 1) gs)))) f
    ∙ sym (apply_all-append t g.items (joined (groups_in (drop (at + 1) gs))))
    ∙ ap (λ vs. apply_all t (joined (groups_in vs))) (sym (at_turn gs at g inside is))
    ∙ h

pub no_operation : (xs : List SyncOp) → length xs ≡ 0 → xs ≡ []
no_operation [] e = refl
no_operation (x ∷ xs) e = absurd (omega (arith, e))
