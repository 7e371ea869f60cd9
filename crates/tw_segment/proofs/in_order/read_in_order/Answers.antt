use Rattle.tw_segment.proofs.InOrder.{with_utf8}
use Rattle.tw_segment.proofs.in_order.read_in_order.Goals as goal

pub returns-in-Ok : goal.returns-in-Ok
returns-in-Ok c = with_utf8 (λ v. v.items) c.read_text.result c.in-Ok.text.now c.args.bytes.now c.in-Ok.ensures.cases.0 c.in-Ok.ensures.cases.1 c.read_text.ensures
