use Rattle.std.proofs.Common.{subst, refl}
use Rattle.std.specs.Option.{IfSome}
use Rattle.tw_segment.specs.Tokens.{NamedAt}
use Rattle.tw_segment.proofs.InOrder.{op_at}
use Rattle.tw_segment.proofs.in_order.read_op.Goals as goal

pub returns-then-take_end : goal.returns-then-take_end
returns-then-take_end c =
    let name = c.in-Some.name.now in
    let members = c.take_name.new.reader in
    let after = c.read_named.new.reader in
    op_at c.args.reader.now members after c.take_end.new.reader name c.in-Some-2.op c.in-Some.ensures
    (subst (λ o. IfSome o (λ op. NamedAt name members op after)) c.in-Some-2.is c.in_ok-op.ensures) (c.if-take_end.ensures refl)
