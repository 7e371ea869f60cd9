-- Runs of operations of versions that are read.
use Rattle.std.proofs.Common.{◌≡◌, ℕ, zero, suc, ◌<◌, Bool, true, false, cond, List, [], ◌∷◌, ◌++◌, length, get_or, slice_index_or, take, drop, Some, None, sym, ap, subst, ◌∙◌, arith}
use Rattle.std.specs.List.{AllByRecursion}
use Rattle.std.proofs.lemmas.Option.{same_Some}
use Rattle.tw_model.specs.Maps.{same_bytes}
use Rattle.tw_model.specs.Runs.{follows_sync}
use Rattle.tw_model.specs.declared.SyncOp.{SyncOp}
use Rattle.tw_model.specs.declared.SyncOp.TheVariants as sync
use Rattle.tw_bodies.specs.Reading.{sync_update_at, sync_op_at}
use Rattle.tw_bodies.specs.Runs.{goes_on, IsRun}
use Rattle.tw_fields.specs.Reading.{text_at, option_at, moment_at, uuid_at}
use Rattle.tw_fields.proofs.FieldsSpelled.{bind_some}

uuid_is : (b : Bool) (bytes : List ℕ) (r : List ℕ × List ℕ) → cond b None (Some (take 16 bytes, drop 16 bytes)) ≡ Some r → take 16 bytes ≡ r.0
uuid_is true bytes r e = absurd cc
uuid_is false bytes r e = ap (λ (q : List ℕ × List ℕ). q.0) (same_Some _ r e)

update_of : (bytes u : List ℕ) → same_bytes (take 16 bytes) u ≡ true → (read : SyncOp × List ℕ) → sync_update_at bytes ≡ Some read → follows_sync u read.0 ≡ true
unfolding sync_update_at
update_of bytes u same read e =
    let v = bind_some (uuid_at bytes) _ read e in
    let p = bind_some (text_at v.0.1) _ read v.2 in
    let o = bind_some (option_at p.0.1) _ read p.2 in
    let m = bind_some (moment_at o.0.1) _ read o.2 in
    let made : SyncOp × List ℕ = (sync.Update v.0.0 p.0.0 o.0.0 m.0.0, m.0.1) in
    let own : take 16 bytes ≡ v.0.0 = uuid_is _ bytes v.0 v.1 in
    let here : follows_sync u made.0 ≡ true = ap (λ (w : List ℕ). same_bytes w u) (sym own) ∙ same in
    subst (λ (q : SyncOp × List ℕ). follows_sync u q.0 ≡ true) {x = made} (same_Some made read m.2) here

-- bytes that begin as an update of a task are read as one
pub update_read : (bytes u : List ℕ) → slice_index_or bytes 0 0 ≡ 3 → same_bytes (take 16 (drop 1 bytes)) u ≡ true → (read : SyncOp × List ℕ) → sync_op_at bytes ≡ Some read → follows_sync u read.0 ≡ true
unfolding sync_op_at
update_read [] u kind same read e = absurd cc
update_read (zero ∷ rest) u kind same read e = absurd cc
update_read (suc zero ∷ rest) u kind same read e = absurd (omega (arith, kind))
update_read (suc (suc zero) ∷ rest) u kind same read e = absurd (omega (arith, kind))
update_read (suc (suc (suc zero)) ∷ rest) u kind same read e = update_of rest u same read e
update_read (suc (suc (suc (suc b))) ∷ rest) u kind same read e = absurd cc

all_more : (first : SyncOp) (ops : List SyncOp) (op : SyncOp) → AllByRecursion (λ o. goes_on first o ≡ true) ops → goes_on first op ≡ true → AllByRecursion (λ o. goes_on first o ≡ true) (ops ++ op ∷ [])
all_more first [] op each is = (is, tt)
all_more first (x ∷ ops) op each is = (each.0, all_more first ops op each.1 is)

-- a run with an operation more that goes on after its first
pub run_more : (ops : List SyncOp) (op first : SyncOp) → IsRun ops → first ≡ get_or ops 0 first → goes_on first op ≡ true → IsRun (ops ++ op ∷ [])
run_more [] op first run is on = absurd run
run_more (x ∷ ops) op first run is on = all_more x ops op run (ap (λ (o : SyncOp). goes_on o op) (sym is) ∙ on)

pub run_some : (ops : List SyncOp) → IsRun ops → 0 < length ops
run_some [] run = absurd run
run_some (x ∷ ops) run = omega arith
