-- Groups as they are made of pending operations, from the last one on.
use Rattle.std.specs.Prelude.{List, reverse}
use Rattle.std.specs.Global.{Vec}
use Rattle.tw_model.specs.declared.SyncOp.{SyncOp}
use Rattle.tw_groups.specs.Groups.{Groups}
use Rattle.tw_groups.specs.Held.{groups_in}

-- what the code has of the parts of operations: the first group and those after it, each list with its last one first
abbrev pub parts_held : List SyncOp → List (Vec SyncOp) → List SyncOp × Groups
parts_held group groups = (reverse group, reverse (groups_in groups))
