-- Operations of a version carried across groups of local ones.
use Rattle.std.specs.Prelude.{List, [], ◌∷◌}
use Rattle.tw_model.specs.declared.SyncOp.{SyncOp}
use Rattle.tw_transform.specs.Grid.{grid}
use Rattle.tw_groups.specs.Groups.{Groups}

-- across one group after another: what is left of the server's operations, and what of each group
abbrev pub cross : List SyncOp → Groups → List SyncOp × Groups
cross ss [] = (ss, [])
cross ss (g ∷ gs) =
    let first = grid ss g in
    let rest = cross first.0 gs in
    (rest.0, first.1 ∷ rest.1)
