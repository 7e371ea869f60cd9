-- Lists of local operations, one behind another: what replicas exchange of them, what taking them back leaves, and whether they fit.
use Rattle.std.proofs.Common.{◌≡◌, ℕ, ◌+◌, ◌<◌, length, drop, get_or, Bool, true, false, cond, List, [], ◌∷◌, ◌++◌, Option, Some, None, refl, sym, ap, ◌∙◌, arith, length-append}
use Rattle.std.proofs.lemmas.List.{drop_more}
use Rattle.tw_model.specs.Ops.{TasksValue}
use Rattle.tw_model.specs.LocalOps.{synced, plain, put_some, fits_local, apply_local, FitAllLocal, take_back, take_back_all}
use Rattle.tw_model.specs.declared.Op.{Op}
use Rattle.tw_model.specs.declared.SyncOp.{SyncOp}
use Rattle.tw_state.specs.State.{State, misfit}

put_some-append : (o : Option SyncOp) (xs ys : List SyncOp) → put_some o (xs ++ ys) ≡ put_some o xs ++ ys
put_some-append None xs ys = refl
put_some-append (Some op) xs ys = refl

pub plain-append : (xs ys : List Op) → plain (xs ++ ys) ≡ plain xs ++ plain ys
plain-append [] ys = refl
plain-append (x ∷ xs) ys = ap (put_some (synced x)) (plain-append xs ys) ∙ put_some-append (synced x) (plain xs) (plain ys)

pub back-append : (tasks : TasksValue) (xs ys : List Op) → take_back_all tasks (xs ++ ys) ≡ take_back_all (take_back_all tasks ys) xs
back-append tasks [] ys = refl
back-append tasks (x ∷ xs) ys = ap (λ t. take_back t x) (back-append tasks xs ys)

-- one operation more is counted
pub count_turn : (count one all : ℕ) (ops : List Op) (at : ℕ) (op : Op) → at < length ops → op ≡ get_or ops at op → one ≡ length (plain (op ∷ [])) → count + length (plain (drop at ops)) ≡ all
    → (count + one) + length (plain (drop (at + 1) ops)) ≡ all
count_turn count one all ops at op inside is counts before =
    let here : plain (drop at ops) ≡ plain (op ∷ []) ++ plain (drop (at + 1) ops) = ap plain (drop_more ops at op inside ∙ ap (λ y. y ∷ drop (at + 1) ops) (sym is)) ∙ plain-append (op ∷ []) (drop (at + 1) ops) in
    let a = ap length here in
    let b = length-append (plain (op ∷ [])) (plain (drop (at + 1) ops)) in
    omega (arith, a, b, counts, before)

pub fits_from : (n : ℕ) (tasks : TasksValue) (ops : List Op) → misfit n tasks ops ≡ None → FitAllLocal tasks ops
fits_from n tasks [] e = tt
fits_from n tasks (op ∷ ops) e = by (fits_local tasks op) refl e (fits_from (n + 1) (apply_local tasks op) ops)
  where
    by : (b : Bool) → fits_local tasks op ≡ b → cond b (misfit (n + 1) (apply_local tasks op) ops) (Some n) ≡ None → (misfit (n + 1) (apply_local tasks op) ops ≡ None → FitAllLocal (apply_local tasks op) ops) → FitAllLocal tasks (op ∷ ops)
    by true t f rest = (t, rest f)
    by false t f rest = absurd cc

pub some_state : (s t : State) → Some s ≡ Some t → s ≡ t
some_state s t e = cc
