use Rattle.tw_model.proofs.Sorted.{on_ok}
use Rattle.tw_path.proofs.Presences.{back_create, back_delete, back_update}
use Rattle.tw_path.proofs.presence.Presence.take_back.Goals as goal

pub returns-in-Create : goal.returns-in-Create
returns-in-Create c = on_ok c.set.result (back_create c.args.self.now c.set.new.self c.args.op.now c.in-Create.uuid c.in-Create.is) c.set.ensures

pub returns-in-Delete : goal.returns-in-Delete
returns-in-Delete c = on_ok c.set-in-Delete.result (back_delete c.args.self.now c.set-in-Delete.new.self c.args.op.now c.in-Delete.uuid c.in-Delete.before c.in-Delete.is) c.set-in-Delete.ensures

pub returns-in-Update : goal.returns-in-Update
returns-in-Update c = back_update c.args.self.now c.args.op.now c.in-Update.uuid c.in-Update.property c.in-Update.before c.in-Update.after c.in-Update.at c.in-Update.is
