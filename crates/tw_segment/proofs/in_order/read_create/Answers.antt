use Rattle.tw_segment.proofs.InOrder.{create_at}
use Rattle.tw_segment.proofs.in_order.read_create.Goals as goal

pub returns : goal.returns
returns c = create_at c.args.reader.now c.take_only_uuid.new.reader c.in_ok-uuid.uuid c.in_ok-uuid.ensures
