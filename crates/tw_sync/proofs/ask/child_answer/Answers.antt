use Rattle.tw_sync.proofs.BadReplies.{differs, is_same, other_parent, child_nil, not_to_child, no_snapshot_to_child}
use Rattle.tw_sync.proofs.ask.child_answer.Goals as goal

pub unreachable-requires-in-Added : goal.unreachable-requires-in-Added
unreachable-requires-in-Added c = not_to_child c.args.bytes.now c.in_ok-child.field-0 c.in_ok-child.ensures.read c.in-Added.is

pub returns-then-ne-clause-refused : goal.returns-then-ne-clause-refused
returns-then-ne-clause-refused c client =
    other_parent client c.args.parent c.in-Child.named c.args.bytes.now c.in-Child.child c.in-Child.segment c.bad_reply.result c.in_ok-child.field-0 c.bad_reply.ensures c.in_ok-child.ensures.read c.in-Child.is (differs c.in-Child.named c.args.parent c.if-ne.ensures)

pub returns-then-eq-clause-refused : goal.returns-then-eq-clause-refused
returns-then-eq-clause-refused c client =
    child_nil client c.args.parent c.in-Child.named c.args.bytes.now c.in-Child.child c.nil.result c.in-Child.segment c.bad_reply-then-eq.result c.in_ok-child.field-0 c.bad_reply-then-eq.ensures c.in_ok-child.ensures.read c.in-Child.is (is_same c.in-Child.named c.args.parent c.if-ne.ensures) c.if-eq.ensures c.nil.ensures

pub unreachable-requires-in-Stored : goal.unreachable-requires-in-Stored
unreachable-requires-in-Stored c = no_snapshot_to_child c.args.bytes.now c.in_ok-child.field-0 c.in_ok-child.ensures.read c.in-Stored.is
