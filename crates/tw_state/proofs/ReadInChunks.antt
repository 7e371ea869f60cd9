-- A sync whose operations are read some at a time.
use Rattle.std.proofs.Common.{◌≡◌, ℕ, ◌==◌, Bool, true, false, ◌||◌, if◌then◌else◌, List, [], ◌∷◌, ◌++◌, length, Option, Some, None, refl, sym, ap, ◌∙◌, arith}
use Rattle.std.proofs.lemmas.Bool.Decides.{nat_tests}
use Rattle.tw_model.specs.Ops.{TasksValue, apply_all}
use Rattle.tw_model.specs.declared.SyncOp.{SyncOp}
use Rattle.tw_model.proofs.Ops.{apply_all-append}
use Rattle.tw_bodies.specs.Body.{Step}
use Rattle.tw_bodies.specs.Body.Step.{Sync}
use Rattle.tw_bodies.specs.Reading.{sync_op_at, sync_in}
use Rattle.tw_fields.specs.Reading.{◌>>=◌, many_at}
use Rattle.tw_numbers.specs.Assigned.{is_among}
use Rattle.tw_state.specs.Touched.{is_about_synced, is_touched_by_synced}
use Rattle.tw_state.specs.Applied.{AppliesAll, AppliesRead, synced_by}
use Rattle.tw_state.specs.State.{State, synced, applied}
pub use Rattle.tw_bodies.proofs.ReadSome.{some_on, some_fail, all_read}

pub no_sync : (base : List ℕ) (count : ℕ) (bytes : List ℕ) → many_at sync_op_at count bytes ≡ None → sync_in base count bytes ≡ None
no_sync base count bytes none = ap (λ (r : Option (List SyncOp × List ℕ)). r >>= λ ops. if length ops.1 == 0 then Some (Sync base ops.0) else None) none

pub ended : (b : Bool) (count : ℕ) (bytes rest : List ℕ) (ops : List SyncOp) (old new : TasksValue) (before after : List (List ℕ)) → (length rest == 0) ≡ b
    → many_at sync_op_at count bytes ≡ Some (ops, rest) → new ≡ apply_all old ops → ((u : List ℕ) → is_among after u ≡ (is_among before u || is_touched_by_synced ops u)) → AppliesRead b count bytes old new before after
ended true count bytes rest ops old new before after none read tasks touched = record { ops = ops; read = read ∙ ap (λ (bs : List ℕ). Some (ops, bs)) (empty_list rest none); tasks = tasks; touched = touched }
  where
    empty_list : (xs : List ℕ) → (length xs == 0) ≡ true → xs ≡ []
    empty_list [] e = refl
    empty_list (x ∷ xs) e = let none : length (x ∷ xs) ≡ 0 = grind (arith, nat_tests) in absurd (omega (arith, none))
ended false count bytes rest ops old new before after more read tasks touched = λ base.
    ap (λ (r : Option (List SyncOp × List ℕ)). r >>= λ ops. if length ops.1 == 0 then Some (Sync base ops.0) else None) read ∙ ap (λ b. if b then Some (Sync base ops) else None) more

-- more operations were looked at
touched_both : (xs ys : List SyncOp) (u : List ℕ) → is_touched_by_synced (xs ++ ys) u ≡ is_touched_by_synced xs u || is_touched_by_synced ys u
touched_both [] ys u = refl
touched_both (x ∷ xs) ys u = ap (λ b. is_about_synced u x || b) (touched_both xs ys u) ∙ by (is_about_synced u x) (is_touched_by_synced xs u) (is_touched_by_synced ys u)
  where
    by : (a b c : Bool) → a || (b || c) ≡ (a || b) || c
    by true b c = refl
    by false b c = refl

pub touched_on : (xs ys : List SyncOp) (u : List ℕ) (first had has : Bool) → had ≡ first || is_touched_by_synced xs u → has ≡ had || is_touched_by_synced ys u → has ≡ first || is_touched_by_synced (xs ++ ys) u
touched_on xs ys u first had has before now =
    now ∙ ap (λ b. b || is_touched_by_synced ys u) before ∙ by first (is_touched_by_synced xs u) (is_touched_by_synced ys u) ∙ ap (λ b. first || b) (sym (touched_both xs ys u))
  where
    by : (a b c : Bool) → (a || b) || c ≡ a || (b || c)
    by true b c = refl
    by false b c = refl

pub applied_on : (old so_far new : TasksValue) (xs ys : List SyncOp) → so_far ≡ apply_all old xs → new ≡ apply_all so_far ys → new ≡ apply_all old (xs ++ ys)
applied_on old so_far new xs ys before now = now ∙ ap (λ (ts : TasksValue). apply_all ts ys) before ∙ sym (apply_all-append old xs ys)

-- the state after a sync, and none where the bytes are no operations
pub synced_as : (base : List ℕ) (count : ℕ) (bytes : List ℕ) (old next : State) (ops : List SyncOp) → many_at sync_op_at count bytes ≡ Some (ops, []) → synced base ops old ≡ next → synced_by base count bytes old ≡ Some next
synced_as base count bytes old next ops read is =
    ap (λ (r : Option (List SyncOp × List ℕ)). (r >>= λ o. if length o.1 == 0 then Some (Sync base o.0) else None) >>= applied old) read ∙ ap (λ (s : State). Some s) is

pub not_synced : (base : List ℕ) (count : ℕ) (bytes : List ℕ) (old : State) → sync_in base count bytes ≡ None → synced_by base count bytes old ≡ None
not_synced base count bytes old none = ap (λ (r : Option Step). r >>= applied old) none

-- the operations that were applied
pub all_applied : (b : Bool) (count : ℕ) (bytes : List ℕ) (old new : TasksValue) (before after : List (List ℕ)) → b ≡ true → AppliesRead b count bytes old new before after → AppliesAll count bytes old new before after
all_applied true count bytes old new before after done all = all
all_applied false count bytes old new before after done all = let nothing : ⊥ = cc in absurd nothing
