-- Runs: operations of versions one after another that all fit if the first does.
use Rattle.std.specs.Prelude.{◌≡◌, ℕ, ◌+◌, Bool, true, false, List, [], ◌∷◌, length}
use Rattle.std.specs.List.{AllByRecursion}
use Rattle.tw_model.specs.Runs.{follows_sync}
use Rattle.tw_model.specs.declared.SyncOp.{SyncOp}
use Rattle.tw_model.specs.declared.SyncOp.TheVariants as sync
use Rattle.tw_bodies.specs.Reading.{sync_op_at}
use Rattle.tw_fields.specs.Reading.{many_at, with_front}

-- whether an operation updates the task that the first one leaves
abbrev pub goes_on : (first op : SyncOp) → Bool
goes_on (sync.Create u) op = follows_sync u op
goes_on (sync.Delete u) op = false
goes_on (sync.Update u p value at) op = follows_sync u op

-- there is a first operation, and the others update the task that it leaves
abbrev pub IsRun : List SyncOp → Type 0
IsRun [] = ⊥
IsRun (first ∷ ops) = AllByRecursion (λ op. goes_on first op ≡ true) ops

-- of so many operations a run was read, and so many are left in the bytes after it
pub record ReadsRun (count : ℕ) (bytes : List ℕ) (ops : List SyncOp) (left : ℕ) (rest : List ℕ) : Type 0 where
  pub read : with_front ops (many_at sync_op_at left rest) ≡ many_at sync_op_at count bytes
  pub run : IsRun ops
  pub sum : length ops + left ≡ count
