use Rattle.tw_http.specs.declared.message.Request.TheVariants.{Add}
use Rattle.tw_sync.proofs.BadReplies.{added_nil, not_to_add, no_snapshot_to_add}
use Rattle.tw_sync.proofs.ask.add_answer.Goals as goal

pub unreachable-requires-in-Child : goal.unreachable-requires-in-Child
unreachable-requires-in-Child c = not_to_add c.args.bytes.now c.in_ok-id.field-0 c.in_ok-id.ensures.read c.in-Child.is

pub returns-then-eq-clause-refused : goal.returns-then-eq-clause-refused
returns-then-eq-clause-refused c client parent segment = added_nil (Add client parent segment) c.args.bytes.now c.in-Added.id c.nil.result c.in-Added.wanted c.bad_reply.result c.in_ok-id.field-0 c.bad_reply.ensures c.in_ok-id.ensures.read c.in-Added.is c.if-eq.ensures c.nil.ensures

pub unreachable-requires-in-Stored : goal.unreachable-requires-in-Stored
unreachable-requires-in-Stored c = no_snapshot_to_add c.args.bytes.now c.in_ok-id.field-0 c.in_ok-id.ensures.read c.in-Stored.is
