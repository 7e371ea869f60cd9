-- Operations that are applied run by run.
use Rattle.std.proofs.Common.{◌≡◌, ℕ, ◌+◌, ◌-◌, ◌<◌, ◌≤◌, zero, suc, false, cond, Some, List, [], ◌∷◌, ◌++◌, length, drop, slice_range, slice_index_or, refl, sym, ap, ◌∙◌, arith}
use Rattle.std.proofs.lemmas.List.Folds.{drop_split}
use Rattle.std.proofs.lemmas.List.{length-take, length-drop}
use Rattle.tw_model.specs.Ops.{TasksValue, apply_all}
use Rattle.tw_model.specs.LocalOps.{fits_local, apply_local, apply_all_local, FitAllLocal}
use Rattle.tw_model.specs.declared.Op.{Op}
use Rattle.tw_model.specs.declared.Op.TheVariants.{UndoPoint}
use Rattle.tw_model.specs.declared.SyncOp.{SyncOp}
use Rattle.tw_model.proofs.Ops.{apply_all-append}
use Rattle.tw_state.specs.State.{misfit}

apply_all_local-append : (tasks : TasksValue) (xs ys : List Op) → apply_all_local tasks (xs ++ ys) ≡ apply_all_local (apply_all_local tasks xs) ys
apply_all_local-append tasks [] ys = refl
apply_all_local-append tasks (x ∷ xs) ys = apply_all_local-append (apply_local tasks x) xs ys

misfit_past : (n : ℕ) (tasks : TasksValue) (xs ys : List Op) → FitAllLocal tasks xs → misfit n tasks (xs ++ ys) ≡ misfit (n + length xs) (apply_all_local tasks xs) ys
misfit_past n tasks [] ys fit = ap (λ k. misfit k tasks ys) (omega arith)
misfit_past n tasks (x ∷ xs) ys fit =
    ap (λ b. cond b (misfit (n + 1) (apply_local tasks x) (xs ++ ys)) (Some n)) fit.0 ∙ misfit_past (n + 1) (apply_local tasks x) xs ys fit.1 ∙ ap (λ k. misfit k (apply_all_local (apply_local tasks x) xs) ys) (omega arith)

-- how many operations a run has
run_length : {A : Type 0} (xs : List A) (from to : ℕ) → from ≤ to → to ≤ length xs → from + length (slice_range xs from to) ≡ to
run_length xs from to up inside = let a = length-take (to - from) (drop from xs) in let b = length-drop from xs in omega (arith, a, b, up, inside)

-- a run of operations that fit leaves the others to be applied
pub run_on : (tasks next : TasksValue) (ops : List Op) (from to : ℕ) → from ≤ to → to ≤ length ops → FitAllLocal tasks (slice_range ops from to) → next ≡ apply_all_local tasks (slice_range ops from to)
    → (misfit to next (drop to ops) ≡ misfit from tasks (drop from ops)) × (apply_all_local next (drop to ops) ≡ apply_all_local tasks (drop from ops))
run_on tasks next ops from to up inside fit left =
    let run = slice_range ops from to in
    let split = drop_split ops from to up in (
      ap (λ (ts : TasksValue). misfit to ts (drop to ops)) left ∙ ap (λ k. misfit k (apply_all_local tasks run) (drop to ops)) (sym (run_length ops from to up inside)) ∙ sym (misfit_past from tasks run (drop to ops) fit) ∙ ap (λ (xs : List Op). misfit from tasks xs) (sym split),
      ap (λ (ts : TasksValue). apply_all_local ts (drop to ops)) left ∙ sym (apply_all_local-append tasks run (drop to ops)) ∙ ap (λ (xs : List Op). apply_all_local tasks xs) (sym split),
    )

-- so does a run of operations of versions
pub sync_run_on : (tasks next : TasksValue) (ops : List SyncOp) (from to : ℕ) → from ≤ to → next ≡ apply_all tasks (slice_range ops from to) → apply_all next (drop to ops) ≡ apply_all tasks (drop from ops)
sync_run_on tasks next ops from to up left =
    let run = slice_range ops from to in
    ap (λ (ts : TasksValue). apply_all ts (drop to ops)) left ∙ sym (apply_all-append tasks run (drop to ops)) ∙ ap (λ (xs : List SyncOp). apply_all tasks xs) (sym (drop_split ops from to up))

-- and so do some that were read
pub applied_left : (tasks next : TasksValue) (left some more : List SyncOp) → left ≡ some ++ more → next ≡ apply_all tasks some → apply_all next more ≡ apply_all tasks left
applied_left tasks next left some more whole made = ap (λ (t : TasksValue). apply_all t more) made ∙ sym (apply_all-append tasks some more) ∙ ap (apply_all tasks) (sym whole)

-- where the next operation does not fit, it is the first that does not
pub stops : (n : ℕ) (tasks : TasksValue) (ops : List Op) (at : ℕ) → at < length ops → ((d : Op) → fits_local tasks (slice_index_or ops at d) ≡ false) → misfit n tasks (drop at ops) ≡ Some n
stops n tasks [] at inside unfit = absurd (omega (arith, inside))
stops n tasks (op ∷ ops) zero inside unfit = ap (λ b. cond b (misfit (n + 1) (apply_local tasks op) ops) (Some n)) (unfit UndoPoint)
stops n tasks (op ∷ ops) (suc at) inside unfit = stops n tasks ops at (omega (arith, inside)) unfit
