use Rattle.tw_model.proofs.Sorted.{on_ok}
use Rattle.tw_path.proofs.Presences.{on_create, on_delete, on_update}
use Rattle.tw_path.proofs.presence.Presence.follow.Goals as goal

pub returns-in-Create : goal.returns-in-Create
returns-in-Create c = on_ok c.set.result (on_create c.args.self.now c.set.new.self c.args.op.now c.in-Create.uuid c.in-Create.is) c.set.ensures

pub returns-in-Delete : goal.returns-in-Delete
returns-in-Delete c = on_ok c.set-in-Delete.result (on_delete c.args.self.now c.set-in-Delete.new.self c.args.op.now c.in-Delete.uuid c.in-Delete.is) c.set-in-Delete.ensures

pub returns-in-Update : goal.returns-in-Update
returns-in-Update c = on_update c.args.self.now c.args.op.now c.in-Update.uuid c.in-Update.property c.in-Update.value c.in-Update.at c.in-Update.is
