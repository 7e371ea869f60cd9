use Rattle.tw_state.proofs.MadeOnPart.{next_room, next_taken}
use Rattle.tw_replica.proofs.keeping.record.write_next.Goals as goal

pub take_over-requires : goal.take_over-requires
take_over-requires g c = next_room c.args.core.now.tasks c.args.next c.requires.next c.write_record.new.tasks c.in_ok-write_record.ensures.room

pub returns-clause-tasks : goal.returns-clause-tasks
returns-clause-tasks g c = next_taken c.args.core.now.tasks c.args.next c.requires.next c.write_record.new.tasks c.in_ok-write_record.ensures.room c.take_over.new.core.tasks c.take_over.ensures.tasks
