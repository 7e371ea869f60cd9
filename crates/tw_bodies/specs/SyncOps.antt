-- Operations of versions, held as a record's body spells them.
use Rattle.std.specs.Prelude.{◌≡◌, ◌<◌, ◌^◌, ℕ, List, [], length, Option, Some, None}
use Rattle.std.specs.List.{flat_map, AllByRecursion}
use Rattle.tw_model.specs.declared.SyncOp.{SyncOp}
use Rattle.tw_bodies.specs.Body.{sync_op_bytes, IsSyncOp}
use Rattle.tw_bodies.specs.Reading.{sync_op_at}
use Rattle.tw_fields.specs.Reading.{many_at}

abbrev pub ops_or_none : Option (List SyncOp × List ℕ) → List SyncOp
ops_or_none None = []
ops_or_none (Some read) = read.0

-- the operations that bytes spell, which are so many
abbrev pub ops_in : (count : ℕ) (bytes : List ℕ) → List SyncOp
ops_in count bytes = ops_or_none (many_at sync_op_at count bytes)

-- the bytes are those of so many operations, each of the program, and four bytes can say how many they are
pub record AreSpelled (n : ℕ) (bytes : List ℕ) : Type 0 where
  pub spelled : bytes ≡ flat_map sync_op_bytes (ops_in n bytes)
  pub count : n ≡ length (ops_in n bytes)
  pub each : AllByRecursion IsSyncOp (ops_in n bytes)
  pub short : length bytes < 2 ^ 32
