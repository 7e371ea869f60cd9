use Rattle.tw_segment.proofs.InOrder.{delete_at}
use Rattle.tw_segment.proofs.in_order.read_delete.Goals as goal

pub returns : goal.returns
returns c = delete_at c.args.reader.now c.take_only_uuid.new.reader c.in_ok-uuid.uuid c.in_ok-uuid.ensures
