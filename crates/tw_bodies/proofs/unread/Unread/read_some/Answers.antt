use Rattle.std.proofs.Common.{◌≡◌, ◌∙◌, ◌-◌, [], length, ap, sym, arith}
use Rattle.tw_bodies.specs.Reading.{sync_op_at}
use Rattle.tw_bodies.specs.SyncOps.{ops_in}
use Rattle.tw_fields.specs.Reading.{many_at}
use Rattle.tw_bodies.proofs.ReadSome.{front_none, some_on}
use Rattle.tw_bodies.proofs.SyncOpsHeld.{left_on, left_length}
use Rattle.tw_bodies.proofs.unread.Unread.read_some.Goals as goal

pub invariant_of-self : goal.invariant_of-self
invariant_of-self c =
    let left = c.self.inside.left in
    let rest = c.self.inside.rest.now in
    let some = c.min-some.result in
    let total = many_at sync_op_at left rest in
    (left_on left (left - some) rest c.in-Ok.rest.now c.in-Ok.ops.items c.self.invariant (some_on sync_op_at [] c.in-Ok.ops.items some left rest c.in-Ok.rest.now total (omega (arith, c.min-some.ensures)) c.in-Ok.ensures (front_none total))).0

pub returns-clause-read : goal.returns-clause-read
returns-clause-read c =
    let left = c.self.inside.left in
    let rest = c.self.inside.rest.now in
    let some = c.min-some.result in
    let total = many_at sync_op_at left rest in
    sym c.self.view_is
    ∙ (left_on left (left - some) rest c.in-Ok.rest.now c.in-Ok.ops.items c.self.invariant (some_on sync_op_at [] c.in-Ok.ops.items some left rest c.in-Ok.rest.now total (omega (arith, c.min-some.ensures)) c.in-Ok.ensures (front_none total))).1

pub returns-clause-fewer : goal.returns-clause-fewer
returns-clause-fewer c = λ more.
    let left = c.self.inside.left in
    let rest = c.self.inside.rest.now in
    let some = c.min-some.result in
    let after = c.in-Ok.rest.now in
    let total = many_at sync_op_at left rest in
    let on = left_on left (left - some) rest after c.in-Ok.ops.items c.self.invariant (some_on sync_op_at [] c.in-Ok.ops.items some left rest after total (omega (arith, c.min-some.ensures)) c.in-Ok.ensures (front_none total)) in
    let old : left ≡ length c.args.self.now = left_length left rest c.self.invariant ∙ ap length c.self.view_is in
    let new : left - some ≡ length (ops_in (left - some) after) = left_length (left - some) after on.0 in
    omega (arith, old, new, more, c.min-some.ensures)
