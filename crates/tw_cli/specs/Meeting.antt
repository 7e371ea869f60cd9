-- Two operations that meet, as a version is pulled beside groups of pending ones.
use Rattle.std.specs.Prelude.{◌≡◌, ◌⊎◌, true, List, [], ◌∷◌}
use Rattle.tw_model.specs.declared.SyncOp.{SyncOp}
use Rattle.tw_transform.specs.Table.{table}
use Rattle.tw_transform.specs.Grid.{carry, grid}
use Rattle.tw_groups.specs.Groups.{Groups}

-- an operation that goes over local ones in turn, as long as it is kept, meets this one
abbrev pub MeetsOne : SyncOp → List SyncOp → (local : SyncOp) → Type 0
MeetsOne s [] local = ⊥
MeetsOne s (l ∷ ls) local = (l ≡ local) ⊎ (((table s l).server ≡ true) × MeetsOne s ls local)

-- operations go over a group, each over what the one before it left of it, and this one of them meets that one of the group
abbrev pub MeetsInGroup : (ops group : List SyncOp) → (server local : SyncOp) → Type 0
MeetsInGroup [] group server local = ⊥
MeetsInGroup (s ∷ ss) group server local = ((s ≡ server) × MeetsOne s group local) ⊎ MeetsInGroup ss (carry s group).1 server local

-- they go over the groups in turn, what is left of them over the next
abbrev pub MeetsIn : (ops : List SyncOp) → Groups → (server local : SyncOp) → Type 0
MeetsIn ss [] server local = ⊥
MeetsIn ss (g ∷ gs) server local = MeetsInGroup ss g server local ⊎ MeetsIn (grid ss g).0 gs server local
