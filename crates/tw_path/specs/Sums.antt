-- How much of a list is within the limit, by the lengths of its operations.
use Rattle.std.specs.Prelude.{◌≡◌, ℕ, ◌+◌, ◌≤◌, nat_le, false, List, take, drop, Option, Some, None}
use Rattle.tw_model.specs.declared.SyncOp.{SyncOp}
use Rattle.tw_groups.specs.Cut.{cut_ops}
use Rattle.tw_path.specs.Path.{is_batch}
use Rattle.tw_path.specs.Lengths.{ops_len, max_sum}

-- the sum with a list's operations, if it is within the limit
abbrev pub IsSumWithin : ℕ → List SyncOp → Option ℕ → Type 0
IsSumWithin from ops None = nat_le (from + ops_len ops) max_sum ≡ false
IsSumWithin from ops (Some n) = (n ≡ from + ops_len ops) × (n ≤ max_sum)

-- so many of a list's operations are the first of them within the limit, or it is one
pub record IsFirstPart (g : List SyncOp) (k : ℕ) : Type 0 where
  pub some : 1 ≤ k
  pub split : cut_ops is_batch (take 1 g) (drop 1 g) ≡ (take k g, drop k g)
