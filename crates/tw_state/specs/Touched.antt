-- Which tasks operations are about.
use Rattle.std.specs.Prelude.{◌≡◌, ◌||◌, ℕ, Bool, false, List}
use Rattle.std.specs.BTreeSet as set
use Rattle.std.specs.List.{list_any}
use Rattle.tw_model.specs.Maps.{bytes_cmp, same_bytes}
use Rattle.tw_model.specs.Ops.{uuid_of}
use Rattle.tw_model.specs.declared.Op.{Op}
use Rattle.tw_model.specs.declared.Op.TheVariants.{Create, Delete, Update, UndoPoint}
use Rattle.tw_model.specs.declared.SyncOp.{SyncOp}

-- whether an operation is about the task of a uuid
abbrev pub is_about : List ℕ → Op → Bool
is_about u (Create v) = same_bytes u v
is_about u (Delete v before) = same_bytes u v
is_about u (Update v p before after at) = same_bytes u v
is_about u UndoPoint = false

-- whether one of the operations is about the task of a uuid
abbrev pub is_touched : List Op → List ℕ → Bool
is_touched ops u = list_any (is_about u) ops

-- whether one of the operations of versions is about the task of a uuid
abbrev pub is_about_synced : List ℕ → SyncOp → Bool
is_about_synced u op = same_bytes u (uuid_of op)

abbrev pub is_touched_by_synced : List SyncOp → List ℕ → Bool
is_touched_by_synced ops u = list_any (is_about_synced u) ops

-- a set gains the uuids of which the test holds
abbrev pub Gains : (old new : set.BTreeSet (List ℕ)) → (List ℕ → Bool) → Type 0
Gains old new test = (u : List ℕ) → set.contains bytes_cmp new u ≡ (set.contains bytes_cmp old u || test u)
