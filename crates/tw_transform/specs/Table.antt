-- The table: which of a server's operation and a local one are kept.
use Rattle.std.specs.Prelude.{Bool, true, false, cond, nat_lt, ◌||◌, ◌&&◌, ◌==◌}
use Rattle.std.specs.Option.{option_eq}
use Rattle.tw_world.specs.declared.Moment.{Moment}
use Rattle.tw_model.specs.Maps.{same_bytes}
use Rattle.tw_model.specs.Ops.{uuid_of}
use Rattle.tw_model.specs.declared.SyncOp.{SyncOp}
use Rattle.tw_model.specs.declared.SyncOp.TheVariants.{Create, Delete, Update}
use Rattle.tw_transform.specs.declared.table.Verdict.{Verdict}

abbrev pub both : Verdict
both = record { server = true; local = true }

abbrev pub neither : Verdict
neither = record { server = false; local = false }

abbrev pub server_alone : Verdict
server_alone = record { server = true; local = false }

abbrev pub local_alone : Verdict
local_alone = record { server = false; local = true }

-- whether the first moment is after the second
abbrev pub is_later : Moment → Moment → Bool
is_later a b = nat_lt b.seconds a.seconds || (a.seconds == b.seconds && nat_lt b.nanos a.nanos)

-- what is kept of two operations on one uuid
abbrev pub table_on_one : SyncOp → SyncOp → Verdict
table_on_one (Create u) (Create v) = neither
table_on_one (Create u) (Delete v) = server_alone
table_on_one (Create u) (Update v p w at) = local_alone
table_on_one (Delete u) (Create v) = local_alone
table_on_one (Delete u) (Delete v) = neither
table_on_one (Delete u) (Update v p w at) = server_alone
table_on_one (Update u p v at) (Create w) = server_alone
table_on_one (Update u p v at) (Delete w) = local_alone
table_on_one (Update u p v at) (Update w q x then_at) =
    cond (same_bytes p q) (cond (option_eq same_bytes v x) neither (cond (is_later then_at at) local_alone server_alone)) both

-- the table: the server's operation first, the local one second
abbrev pub table : SyncOp → SyncOp → Verdict
table s l = cond (same_bytes (uuid_of s) (uuid_of l)) (table_on_one s l) both
