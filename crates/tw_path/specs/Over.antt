-- A version is passed one operation after another.
use Rattle.std.specs.Prelude.{◌≡◌, ℕ, List, [], ◌∷◌, ◌++◌}
use Rattle.tw_model.specs.Ops.{apply, fit_part}
use Rattle.tw_model.specs.declared.SyncOp.{SyncOp}
use Rattle.tw_protocol.specs.Chain.{Version}
use Rattle.tw_groups.specs.Cross.{cross}
use Rattle.tw_path.specs.Path.{Reached, passed}
use Rattle.tw_path.specs.Path.Leg.{Pull}

-- where one operation of another's version leads
abbrev pub over : Reached → SyncOp → Reached
over r op =
    let crossed = cross (fit_part r.tasks (op ∷ [])) r.left in
    record { at = r.at; tasks = apply r.tasks op; left = crossed.1; carried = r.carried ++ crossed.0 }

abbrev pub over_all : Reached → List SyncOp → Reached
over_all r [] = r
over_all r (op ∷ ops) = over_all (over r op) ops

-- the same, at a version
abbrev pub arrived : List ℕ → Reached → Reached
arrived at r = record { at = at; tasks = r.tasks; left = r.left; carried = r.carried }

-- a version that is pulled leads to where its operations lead
abbrev pub PullIsOver : Type 0
PullIsOver = (r : Reached) (v : Version) (ops : List SyncOp) → arrived v.id (over_all r ops) ≡ passed r (Pull v ops)
