-- Operations change no task but those that they are about.
use Rattle.std.proofs.Common.{◌≡◌, ℕ, Bool, true, false, cond, ◌||◌, List, [], ◌∷◌, length, drop, get_or, ◌<◌, ◌≤◌, ◌+◌, Some, None, refl, sym, ap, ◌∙◌}
use Rattle.std.proofs.lemmas.List.{drop_more, drop_all}
use Rattle.std.specs.FinMap.{get}
use Rattle.std.specs.Prelude.{is_none}
use Rattle.tw_model.specs.Maps.{set_at, set_inside}
use Rattle.tw_model.proofs.Maps.{get-set_at_apart}
use Rattle.tw_model.specs.Ops.{TasksValue, uuid_of, left_there, apply, apply_all}
use Rattle.tw_model.specs.LocalOps.{fits_local, apply_some, synced, apply_local, apply_all_local, take_back, take_back_all}
use Rattle.tw_model.specs.declared.SyncOp.{SyncOp}
use Rattle.tw_model.specs.declared.SyncOp.TheVariants as sync
use Rattle.tw_model.specs.declared.Op.{Op}
use Rattle.tw_model.specs.declared.Op.TheVariants.{Create, Delete, Update, UndoPoint}
use Rattle.tw_state.specs.Touched.{is_about, is_touched, is_about_synced, is_touched_by_synced}

pub not_first : (a b : Bool) → a || b ≡ false → a ≡ false
not_first true b e = absurd cc
not_first false b e = refl

pub not_second : (a b : Bool) → a || b ≡ false → b ≡ false
not_second true b e = absurd cc
not_second false b e = e

exchanged_apart : (tasks : TasksValue) (op : Op) (u : List ℕ) → is_about u op ≡ false → get (apply_some tasks (synced op)) u ≡ get tasks u
exchanged_apart tasks (Create v) u e = get-set_at_apart tasks v (left_there (sync.Create v) (get tasks v)) u e
exchanged_apart tasks (Delete v before) u e = get-set_at_apart tasks v None u e
exchanged_apart tasks (Update v p before after at) u e = get-set_at_apart tasks v (left_there (sync.Update v p after at) (get tasks v)) u e
exchanged_apart tasks UndoPoint u e = refl

applied_apart : (tasks : TasksValue) (op : Op) (u : List ℕ) → is_about u op ≡ false → get (apply_local tasks op) u ≡ get tasks u
applied_apart tasks op u e = by (fits_local tasks op)
  where
    by : (b : Bool) → get (cond b (apply_some tasks (synced op)) tasks) u ≡ get tasks u
    by true = exchanged_apart tasks op u e
    by false = refl

pub all_applied_apart : (tasks : TasksValue) (ops : List Op) (u : List ℕ) → is_touched ops u ≡ false → get (apply_all_local tasks ops) u ≡ get tasks u
all_applied_apart tasks [] u e = refl
all_applied_apart tasks (op ∷ ops) u e = all_applied_apart (apply_local tasks op) ops u (not_second (is_about u op) (is_touched ops u) e) ∙ applied_apart tasks op u (not_first (is_about u op) (is_touched ops u) e)

taken_back_apart : (tasks : TasksValue) (op : Op) (u : List ℕ) → is_about u op ≡ false → get (take_back tasks op) u ≡ get tasks u
taken_back_apart tasks (Create v) u e = get-set_at_apart tasks v None u e
taken_back_apart tasks (Delete v before) u e = by (is_none (get tasks v))
  where
    by : (b : Bool) → get (cond b (set_at tasks v (Some before)) tasks) u ≡ get tasks u
    by true = get-set_at_apart tasks v (Some before) u e
    by false = refl
taken_back_apart tasks (Update v p before after at) u e = get-set_at_apart tasks v (set_inside p before (get tasks v)) u e
taken_back_apart tasks UndoPoint u e = refl

pub all_taken_back_apart : (tasks : TasksValue) (ops : List Op) (u : List ℕ) → is_touched ops u ≡ false → get (take_back_all tasks ops) u ≡ get tasks u
all_taken_back_apart tasks [] u e = refl
all_taken_back_apart tasks (op ∷ ops) u e = taken_back_apart (take_back_all tasks ops) op u (not_first (is_about u op) (is_touched ops u) e) ∙ all_taken_back_apart tasks ops u (not_second (is_about u op) (is_touched ops u) e)

pub all_synced_apart : (tasks : TasksValue) (ops : List SyncOp) (u : List ℕ) → is_touched_by_synced ops u ≡ false → get (apply_all tasks ops) u ≡ get tasks u
all_synced_apart tasks [] u e = refl
all_synced_apart tasks (op ∷ ops) u e =
    all_synced_apart (apply tasks op) ops u (not_second (is_about_synced u op) (is_touched_by_synced ops u) e) ∙ get-set_at_apart tasks (uuid_of op) (left_there op (get tasks (uuid_of op))) u (not_first (is_about_synced u op) (is_touched_by_synced ops u) e)

-- one operation more was looked at
pub touched_more : (ops : List Op) (at : ℕ) (op : Op) (u : List ℕ) (had has whole : Bool) → at < length ops → op ≡ get_or ops at op → has ≡ had || is_about u op → had || is_touched (drop at ops) u ≡ whole → has || is_touched (drop (at + 1) ops) u ≡ whole
touched_more ops at op u had has whole lt here new so_far =
    let next : drop at ops ≡ op ∷ drop (at + 1) ops = drop_more ops at op lt ∙ ap (λ (x : Op). x ∷ drop (at + 1) ops) (sym here) in
    ap (λ b. b || is_touched (drop (at + 1) ops) u) new ∙ by had (is_about u op) (is_touched (drop (at + 1) ops) u) ∙ ap (λ l. had || is_touched l u) (sym next) ∙ so_far
  where
    by : (a b c : Bool) → (a || b) || c ≡ a || (b || c)
    by true b c = refl
    by false b c = refl

pub touched_end : (ops : List Op) (at : ℕ) (u : List ℕ) (had whole : Bool) → length ops ≤ at → had || is_touched (drop at ops) u ≡ whole → had ≡ whole
touched_end ops at u had whole le so_far = by had ∙ ap (λ l. had || is_touched l u) (sym (drop_all at ops le)) ∙ so_far
  where
    by : (a : Bool) → a ≡ a || false
    by true = refl
    by false = refl
