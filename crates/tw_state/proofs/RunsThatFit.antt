-- Operations of versions that are applied as long as each fits.
use Rattle.std.proofs.Common.{◌≡◌, ℕ, ◌+◌, ◌-◌, ◌≤◌, Bool, true, false, cond, List, [], ◌∷◌, ◌++◌, length, slice_index_or, Option, Some, None, refl, sym, ap, ◌∙◌, arith}
use Rattle.std.specs.List.{AllByRecursion}
use Rattle.std.specs.FinMap.{get, empty}
use Rattle.std.proofs.lemmas.List.{length-append}
use Rattle.tw_model.specs.Maps.{set_at}
use Rattle.tw_model.specs.Ops.{TaskValue, TasksValue, fits_there, left_there, fits, apply, apply_all}
use Rattle.tw_model.specs.Runs.{follows_sync}
use Rattle.tw_model.specs.declared.SyncOp.{SyncOp}
use Rattle.tw_model.specs.declared.SyncOp.TheVariants.{Create, Delete, Update}
use Rattle.tw_model.proofs.Maps.{same_bytes_exact}
use Rattle.tw_model.proofs.Ops.{apply_here, fits_here}
use Rattle.tw_bodies.specs.Reading.{sync_op_at}
use Rattle.tw_bodies.specs.Runs.{goes_on, IsRun}
use Rattle.tw_fields.specs.Reading.{many_at, with_front}
use Rattle.tw_state.specs.State.{misfit_synced}
use Rattle.tw_bodies.proofs.ReadSome.{after_front}
use Rattle.tw_state.proofs.RunsOfOps.{applied_left}

-- ---- operations after others

not_both : (n : ℕ) → Some n ≡ None → ⊥
not_both n e = absurd cc

pub misfit_behind : (n : ℕ) (tasks : TasksValue) (xs ys : List SyncOp) → misfit_synced n tasks xs ≡ None → misfit_synced n tasks (xs ++ ys) ≡ misfit_synced (n + length xs) (apply_all tasks xs) ys
misfit_behind n tasks [] ys none = ap (λ k. misfit_synced k tasks ys) (omega arith)
misfit_behind n tasks (x ∷ xs) ys none = by (fits tasks x) none (λ e. misfit_behind (n + 1) (apply tasks x) xs ys e)
  where
    by : (b : Bool) → cond b (misfit_synced (n + 1) (apply tasks x) xs) (Some n) ≡ None
        → (misfit_synced (n + 1) (apply tasks x) xs ≡ None → misfit_synced (n + 1) (apply tasks x) (xs ++ ys) ≡ misfit_synced (n + 1 + length xs) (apply_all (apply tasks x) xs) ys)
        → cond b (misfit_synced (n + 1) (apply tasks x) (xs ++ ys)) (Some n) ≡ misfit_synced (n + length (x ∷ xs)) (apply_all tasks (x ∷ xs)) ys
    by true e more = more e ∙ ap (λ k. misfit_synced k (apply_all (apply tasks x) xs) ys) {x = n + 1 + length xs} {y = n + length (x ∷ xs)} (omega arith)
    by false e more = absurd (not_both n e)

pub misfit_in_front : (n k : ℕ) (tasks : TasksValue) (xs ys : List SyncOp) → misfit_synced n tasks xs ≡ Some k → misfit_synced n tasks (xs ++ ys) ≡ Some k
misfit_in_front n k tasks [] ys some = absurd cc
misfit_in_front n k tasks (x ∷ xs) ys some = by (fits tasks x) some (λ e. misfit_in_front (n + 1) k (apply tasks x) xs ys e)
  where
    by : (b : Bool) → cond b (misfit_synced (n + 1) (apply tasks x) xs) (Some n) ≡ Some k → (misfit_synced (n + 1) (apply tasks x) xs ≡ Some k → misfit_synced (n + 1) (apply tasks x) (xs ++ ys) ≡ Some k)
        → cond b (misfit_synced (n + 1) (apply tasks x) (xs ++ ys)) (Some n) ≡ Some k
    by true e more = more e
    by false e more = e

-- ---- a run

-- updates of a task that is there fit
updates_fit : (n : ℕ) (tasks : TasksValue) (u : List ℕ) (task : TaskValue) (ops : List SyncOp) → AllByRecursion (λ op. follows_sync u op ≡ true) ops → misfit_synced n (set_at tasks u (Some task)) ops ≡ None
updates_fit n tasks u task [] each = refl
updates_fit n tasks u task (Create v ∷ ops) each = absurd cc
updates_fit n tasks u task (Delete v ∷ ops) each = absurd cc
updates_fit n tasks u task (Update v p value at ∷ ops) each =
    let op = Update v p value at in
    let there = set_at tasks u (Some task) in
    let own : v ≡ u = same_bytes_exact v u each.0 in
    ap (λ b. cond b (misfit_synced (n + 1) (apply there op) ops) (Some n)) (fits_here tasks u (Some task) op own)
    ∙ ap (λ (t : TasksValue). misfit_synced (n + 1) t ops) (apply_here tasks u (Some task) op own) ∙ updates_fit (n + 1) tasks u (set_at task p value) ops each.1

-- the others of a run fit what its first operation leaves
others_fit : (n : ℕ) (tasks : TasksValue) (first : SyncOp) (ops : List SyncOp) → AllByRecursion (λ op. goes_on first op ≡ true) ops → fits tasks first ≡ true → misfit_synced n (apply tasks first) ops ≡ None
others_fit n tasks (Create u) ops each fit = by (get tasks u) fit
  where
    by : (o : Option TaskValue) → fits_there (Create u) o ≡ true → misfit_synced n (set_at tasks u (left_there (Create u) o)) ops ≡ None
    by None e = updates_fit n tasks u empty ops each
    by (Some task) e = absurd cc
others_fit n tasks (Delete u) [] each fit = refl
others_fit n tasks (Delete u) (op ∷ ops) each fit = absurd cc
others_fit n tasks (Update u p value at) ops each fit = by (get tasks u) fit
  where
    by : (o : Option TaskValue) → fits_there (Update u p value at) o ≡ true → misfit_synced n (set_at tasks u (left_there (Update u p value at) o)) ops ≡ None
    by None e = absurd cc
    by (Some task) e = updates_fit n tasks u (set_at task p value) ops each

-- a run fits if its first operation does, and else that is the first that does not
pub run_fits : (tasks : TasksValue) (ops : List SyncOp) (first : SyncOp) → IsRun ops → first ≡ slice_index_or ops 0 first → fits tasks first ≡ true → (n : ℕ) → misfit_synced n tasks ops ≡ None
run_fits tasks [] first run is fit n = absurd run
run_fits tasks (x ∷ ops) first run is fit n =
    let here : fits tasks x ≡ true = ap (fits tasks) (sym is) ∙ fit in
    ap (λ b. cond b (misfit_synced (n + 1) (apply tasks x) ops) (Some n)) here ∙ others_fit (n + 1) tasks x ops run here

pub run_stops : (tasks : TasksValue) (ops : List SyncOp) (first : SyncOp) → IsRun ops → first ≡ slice_index_or ops 0 first → fits tasks first ≡ false → (n : ℕ) → misfit_synced n tasks ops ≡ Some n
run_stops tasks [] first run is unfit n = absurd run
run_stops tasks (x ∷ ops) first run is unfit n = ap (λ b. cond b (misfit_synced (n + 1) (apply tasks x) ops) (Some n)) (ap (fits tasks) (sym is) ∙ unfit)

-- ---- runs one after another

pub fit_on : (all : ℕ) (tasks next : TasksValue) (left run more : List SyncOp) → left ≡ run ++ more → length left ≤ all → ((n : ℕ) → misfit_synced n tasks run ≡ None) → next ≡ apply_all tasks run
    → (misfit_synced (all - length more) next more ≡ misfit_synced (all - length left) tasks left) × (apply_all next more ≡ apply_all tasks left)
fit_on all tasks next left run more whole inside fit made =
    let size : length left ≡ length run + length more = ap length whole ∙ length-append run more in
    let from = all - length left in (
      ap (λ (t : TasksValue). misfit_synced (all - length more) t more) made ∙ ap (λ k. misfit_synced k (apply_all tasks run) more) {x = all - length more} {y = from + length run} (omega arith)
          ∙ sym (misfit_behind from tasks run more (fit from)) ∙ ap (misfit_synced from tasks) (sym whole),
      applied_left tasks next left run more whole made,
    )

pub fit_stops : (n : ℕ) (tasks : TasksValue) (left run more : List SyncOp) → left ≡ run ++ more → ((n : ℕ) → misfit_synced n tasks run ≡ Some n) → misfit_synced n tasks left ≡ Some n
fit_stops n tasks left run more whole unfit = ap (misfit_synced n tasks) whole ∙ misfit_in_front n n tasks run more (unfit n)

-- ---- runs that are read

pub fits_more : (old tasks : TasksValue) (ops run : List SyncOp) → misfit_synced 0 old ops ≡ None → tasks ≡ apply_all old ops → ((n : ℕ) → misfit_synced n tasks run ≡ None) → misfit_synced 0 old (ops ++ run) ≡ None
fits_more old tasks ops run fits made fit = misfit_behind 0 old ops run fits ∙ ap (λ (t : TasksValue). misfit_synced (0 + length ops) t run) (sym made) ∙ fit (0 + length ops)

-- bytes that hold a run that does not fit do not hold operations that do
pub unfit : (old tasks : TasksValue) (ops run : List SyncOp) (left more count : ℕ) (rest after bytes : List ℕ) → with_front ops (many_at sync_op_at left rest) ≡ many_at sync_op_at count bytes → misfit_synced 0 old ops ≡ None → tasks ≡ apply_all old ops
    → with_front run (many_at sync_op_at more after) ≡ many_at sync_op_at left rest → ((n : ℕ) → misfit_synced n tasks run ≡ Some n)
    → (all : List SyncOp) (end : List ℕ) → many_at sync_op_at count bytes ≡ Some (all, end) → misfit_synced 0 old all ≡ None → ⊥
unfit old tasks ops run left more count rest after bytes so_far fits made read stops all end is fit =
    let o = after_front ops all end (many_at sync_op_at left rest) (so_far ∙ is) in
    let p = after_front run o.0 end (many_at sync_op_at more after) (read ∙ o.1) in
    let n = 0 + length ops in
    let there : misfit_synced n tasks o.0 ≡ Some n = fit_stops n tasks o.0 run p.0 p.2 stops in
    let whole : misfit_synced 0 old all ≡ Some n = ap (misfit_synced 0 old) o.2 ∙ misfit_behind 0 old ops o.0 fits ∙ ap (λ (t : TasksValue). misfit_synced n t o.0) (sym made) ∙ there in
    not_both n (sym whole ∙ fit)
