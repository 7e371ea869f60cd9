-- Groups as the code holds them.
use Rattle.std.specs.Prelude.{List, map}
use Rattle.std.specs.Global.{Vec}
use Rattle.tw_model.specs.declared.SyncOp.{SyncOp}
use Rattle.tw_groups.specs.Groups.{Groups}

abbrev pub groups_in : List (Vec SyncOp) → Groups
groups_in vs = map (λ v. v.items) vs
