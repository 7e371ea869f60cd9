use Rattle.std.proofs.Common.{◌∙◌, sym, subst, refl}
use Rattle.std.specs.Option.{IfSome}
use Rattle.tw_segment.specs.Tokens.{OpsAt}
use Rattle.tw_segment.proofs.InOrder.{segment_at}
use Rattle.tw_segment.proofs.in_order.read_text.Goals as goal

pub returns-then-take_finish : goal.returns-then-take_finish
returns-then-take_finish c =
    let all = c.take_start.new.reader in
    let mid = c.read_ops.new.reader in
    segment_at c.args.text.now all mid c.in-Some.ops.items (sym c.in-Ok.ensures.ok ∙ c.if-not-take_start.ensures refl)
    (subst (λ o. IfSome o (λ v. OpsAt all v.items mid)) c.in-Some.is c.in_ok-ops.ensures) (c.if-take_finish.ensures refl)
