use Rattle.std.proofs.Common.{refl}
use Rattle.tw_state.proofs.StatesReached.{on_ok_three}
use Rattle.tw_replica.proofs.PreparedEdits.{made_more}
use Rattle.tw_replica.proofs.step.edit.Editing.make.Goals as goal

pub returns : goal.returns
returns c = on_ok_three c.make_all.result c.make_all.ensures.tasks c.make_all.ensures.ops c.make_all.ensures.among
    (λ tasks ops among. λ old made is. made_more old made c.args.changes.items c.args.at c.args.self.now _ refl refl refl refl tasks ops among is)
