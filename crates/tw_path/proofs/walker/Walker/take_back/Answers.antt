use Rattle.std.proofs.Common.{subst}
use Rattle.tw_model.specs.LocalOps.{take_back_all}
use Rattle.tw_path.specs.Walk.{GainsCopy}
use Rattle.tw_path.specs.declared.walker.Walker.{Walker}
use Rattle.tw_path.proofs.Starting.{goes_back}
use Rattle.tw_path.proofs.walker.Walker.take_back.Goals as goal

pub returns-clause-before : goal.returns-clause-before
returns-clause-before c = λ ops s.
    let hand = c.args.hand.now in
    let old : Walker = c.args.self.now in
    let new : Walker = record { at = old.at; mine = c.copy_once.new.mine; tasks = c.invert.new.self; there = c.take_back.new.self; left = old.left; carried = old.carried } in
    let gains = subst (λ v. GainsCopy hand v old.mine old.tasks c.copy_once.new.mine c.copy_once.new.tasks) c.uuid_in.ensures c.in_ok-copy_once.ensures in
    goes_back hand ops c.args.op.now old new c.copy_once.new.tasks s gains c.in_ok-invert.ensures.ok (c.in_ok-take_back.ensures hand (take_back_all hand ops) s.there)
