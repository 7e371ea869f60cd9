-- Operations on a part of the tasks do what they do on all of them, and so does a look.
use Rattle.std.proofs.Common.{◌≡◌, ℕ, Bool, true, false, cond, List, [], ◌∷◌, ◌+◌, Option, Some, None, is_none, refl, sym, ap, ◌∙◌}
use Rattle.std.specs.FinMap.{get, insert}
use Rattle.tw_model.specs.Maps.{same_bytes, set_at, set_inside}
use Rattle.tw_model.proofs.Maps.{same_bytes_itself, get-set_at}
use Rattle.tw_model.specs.Ops.{TaskValue, TasksValue, uuid_of, fits_there, fits, left_there, apply, apply_all}
use Rattle.tw_model.specs.LocalOps.{is_task, has_value, fits_local, apply_some, synced, apply_local, apply_all_local, take_back, take_back_all}
use Rattle.tw_model.specs.declared.SyncOp.{SyncOp}
use Rattle.tw_model.specs.declared.SyncOp.TheVariants as sync
use Rattle.tw_model.specs.declared.Op.{Op}
use Rattle.tw_model.specs.declared.Op.TheVariants.{Create, Delete, Update, UndoPoint}
use Rattle.tw_numbers.specs.Assigned.{is_among}
use Rattle.tw_state.specs.Touched.{is_about, is_touched, is_about_synced, is_touched_by_synced}
use Rattle.tw_state.specs.State.{misfit, misfit_synced}
use Rattle.tw_state.specs.Part.{AgreeAmong}
use Rattle.tw_numbers.proofs.AlikeOnPart.{or_first, or_second}

-- ---- operations on databases that agree

agree_set : (us : List (List ℕ)) (a b : TasksValue) (v : List ℕ) (x y : Option TaskValue) → AgreeAmong us a b → x ≡ y → AgreeAmong us (set_at a v x) (set_at b v y)
agree_set us a b v x y agree e u inside = get-set_at a v x u ∙ (λ i. cond (same_bytes u v) (e i) (agree u inside i)) ∙ sym (get-set_at b v y u)

agree_if : (us : List (List ℕ)) (a b c d : TasksValue) (x y : Bool) → x ≡ y → AgreeAmong us a b → AgreeAmong us c d → AgreeAmong us (cond x a c) (cond y b d)
agree_if us a b c d x y e taken left u inside = ap (λ z. get (cond z a c) u) e ∙ by y
  where
    by : (z : Bool) → get (cond z a c) u ≡ get (cond z b d) u
    by true = taken u inside
    by false = left u inside

fits_alike : (us : List (List ℕ)) (a b : TasksValue) (op : Op) → AgreeAmong us a b → ((u : List ℕ) → is_about u op ≡ true → is_among us u ≡ true) → fits_local a op ≡ fits_local b op
fits_alike us a b (Create v) agree inside = ap is_none (agree v (inside v (same_bytes_itself v)))
fits_alike us a b (Delete v before) agree inside = ap (is_task before) (agree v (inside v (same_bytes_itself v)))
fits_alike us a b (Update v p before after at) agree inside = ap (has_value p before) (agree v (inside v (same_bytes_itself v)))
fits_alike us a b UndoPoint agree inside = refl

exchanged_alike : (us : List (List ℕ)) (a b : TasksValue) (op : Op) → AgreeAmong us a b → ((u : List ℕ) → is_about u op ≡ true → is_among us u ≡ true) → AgreeAmong us (apply_some a (synced op)) (apply_some b (synced op))
exchanged_alike us a b (Create v) agree inside = agree_set us a b v _ _ agree (ap (left_there (sync.Create v)) (agree v (inside v (same_bytes_itself v))))
exchanged_alike us a b (Delete v before) agree inside = agree_set us a b v None None agree refl
exchanged_alike us a b (Update v p before after at) agree inside = agree_set us a b v _ _ agree (ap (left_there (sync.Update v p after at)) (agree v (inside v (same_bytes_itself v))))
exchanged_alike us a b UndoPoint agree inside = agree

applied_alike : (us : List (List ℕ)) (a b : TasksValue) (op : Op) → AgreeAmong us a b → ((u : List ℕ) → is_about u op ≡ true → is_among us u ≡ true) → AgreeAmong us (apply_local a op) (apply_local b op)
applied_alike us a b op agree inside = agree_if us (apply_some a (synced op)) (apply_some b (synced op)) a b _ _ (fits_alike us a b op agree inside) (exchanged_alike us a b op agree inside) agree

taken_back_alike : (us : List (List ℕ)) (a b : TasksValue) (op : Op) → AgreeAmong us a b → ((u : List ℕ) → is_about u op ≡ true → is_among us u ≡ true) → AgreeAmong us (take_back a op) (take_back b op)
taken_back_alike us a b (Create v) agree inside = agree_set us a b v None None agree refl
taken_back_alike us a b (Delete v before) agree inside = agree_if us (insert a v before) (insert b v before) a b _ _ (ap is_none (agree v (inside v (same_bytes_itself v)))) (agree_set us a b v (Some before) (Some before) agree refl) agree
taken_back_alike us a b (Update v p before after at) agree inside = agree_set us a b v _ _ agree (ap (set_inside p before) (agree v (inside v (same_bytes_itself v))))
taken_back_alike us a b UndoPoint agree inside = agree

-- ---- the same of lists

pub misfit_alike : (us : List (List ℕ)) (n : ℕ) (a b : TasksValue) (ops : List Op) → AgreeAmong us a b → ((u : List ℕ) → is_touched ops u ≡ true → is_among us u ≡ true) → misfit n a ops ≡ misfit n b ops
misfit_alike us n a b [] agree inside = refl
misfit_alike us n a b (op ∷ ops) agree inside =
    ap (λ f. cond f (misfit (n + 1) (apply_local a op) ops) (Some n)) (fits_alike us a b op agree first)
    ∙ ap (λ o. cond (fits_local b op) o (Some n)) (misfit_alike us (n + 1) (apply_local a op) (apply_local b op) ops (applied_alike us a b op agree first) (λ u e. inside u (or_second (is_about u op) (is_touched ops u) e)))
  where
    first : (u : List ℕ) → is_about u op ≡ true → is_among us u ≡ true
    first u e = inside u (or_first (is_about u op) (is_touched ops u) e)

pub all_applied_alike : (us : List (List ℕ)) (a b : TasksValue) (ops : List Op) → AgreeAmong us a b → ((u : List ℕ) → is_touched ops u ≡ true → is_among us u ≡ true) → AgreeAmong us (apply_all_local a ops) (apply_all_local b ops)
all_applied_alike us a b [] agree inside = agree
all_applied_alike us a b (op ∷ ops) agree inside =
    all_applied_alike us (apply_local a op) (apply_local b op) ops
    (applied_alike us a b op agree (λ u e. inside u (or_first (is_about u op) (is_touched ops u) e)))
    (λ u e. inside u (or_second (is_about u op) (is_touched ops u) e))

pub all_taken_back_alike : (us : List (List ℕ)) (a b : TasksValue) (ops : List Op) → AgreeAmong us a b → ((u : List ℕ) → is_touched ops u ≡ true → is_among us u ≡ true) → AgreeAmong us (take_back_all a ops) (take_back_all b ops)
all_taken_back_alike us a b [] agree inside = agree
all_taken_back_alike us a b (op ∷ ops) agree inside =
    taken_back_alike us (take_back_all a ops) (take_back_all b ops) op
    (all_taken_back_alike us a b ops agree (λ u e. inside u (or_second (is_about u op) (is_touched ops u) e)))
    (λ u e. inside u (or_first (is_about u op) (is_touched ops u) e))

pub all_synced_alike : (us : List (List ℕ)) (a b : TasksValue) (ops : List SyncOp) → AgreeAmong us a b → ((u : List ℕ) → is_touched_by_synced ops u ≡ true → is_among us u ≡ true) → AgreeAmong us (apply_all a ops) (apply_all b ops)
all_synced_alike us a b [] agree inside = agree
all_synced_alike us a b (op ∷ ops) agree inside =
    all_synced_alike us (apply a op) (apply b op) ops
    (agree_set us a b (uuid_of op) _ _ agree (ap (left_there op) (agree (uuid_of op) (inside (uuid_of op) (or_first (same_bytes (uuid_of op) (uuid_of op)) (is_touched_by_synced ops (uuid_of op)) (same_bytes_itself (uuid_of op)))))))
    (λ u e. inside u (or_second (is_about_synced u op) (is_touched_by_synced ops u) e))

pub misfit_synced_alike : (us : List (List ℕ)) (n : ℕ) (a b : TasksValue) (ops : List SyncOp) → AgreeAmong us a b → ((u : List ℕ) → is_touched_by_synced ops u ≡ true → is_among us u ≡ true) → misfit_synced n a ops ≡ misfit_synced n b ops
misfit_synced_alike us n a b [] agree inside = refl
misfit_synced_alike us n a b (op ∷ ops) agree inside =
    let here : get a (uuid_of op) ≡ get b (uuid_of op) = agree (uuid_of op) (inside (uuid_of op) (or_first (same_bytes (uuid_of op) (uuid_of op)) (is_touched_by_synced ops (uuid_of op)) (same_bytes_itself (uuid_of op)))) in
    ap (λ o. cond (fits_there op o) (misfit_synced (n + 1) (apply a op) ops) (Some n)) here
    ∙ ap (λ o. cond (fits b op) o (Some n)) (misfit_synced_alike us (n + 1) (apply a op) (apply b op) ops (agree_set us a b (uuid_of op) _ _ agree (ap (left_there op) here)) (λ u e. inside u (or_second (is_about_synced u op) (is_touched_by_synced ops u) e)))
