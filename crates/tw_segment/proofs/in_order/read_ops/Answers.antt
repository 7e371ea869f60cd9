use Rattle.std.proofs.Common.{◌++◌, subst, sym}
use Rattle.std.specs.Option.{IfSome}
use Rattle.tw_segment.specs.Tokens.{OpAt, OpsAt}
use Rattle.tw_segment.proofs.InOrder.{one_more, all_read, fewer}
use Rattle.tw_segment.proofs.in_order.read_ops.Goals as goal

pub list-init : goal.list-init
list-init c = λ more rest ops. subst (λ xs. OpsAt c.args.reader.now (xs ++ more) rest) (sym c.new-ops.ensures.items) ops

pub returns-then-take_end_array : goal.returns-then-take_end_array
returns-then-take_end_array c =
    all_read c.args.reader.now c.list.reader c.take_end_array.new.self c.list.ops.items c.list.invariant c.if-take_end_array.ensures

pub list-smaller : goal.list-smaller
list-smaller c =
    let next = c.read_op.new.reader in
    fewer c.list.reader next c.in-Some.op
    (subst (λ ts. OpAt ts c.in-Some.op next) c.if-take_end_array.ensures.1 (subst (λ o. IfSome o (λ op. OpAt c.take_end_array.new.self op next)) c.in-Some.is c.in_ok-op.ensures))

pub list-preserved : goal.list-preserved
list-preserved c =
    let next = c.read_op.new.reader in
    one_more c.args.reader.now c.list.reader next c.list.ops.items c.push.new.self.items c.in-Some.op c.list.invariant
    (subst (λ ts. OpAt ts c.in-Some.op next) c.if-take_end_array.ensures.1 (subst (λ o. IfSome o (λ op. OpAt c.take_end_array.new.self op next)) c.in-Some.is c.in_ok-op.ensures))
    c.in_ok-push.ensures.items
