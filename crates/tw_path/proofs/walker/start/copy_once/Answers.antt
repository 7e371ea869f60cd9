use Rattle.std.proofs.Common.{◌∙◌, sym, subst}
use Rattle.tw_path.specs.Walk.{GainsCopy}
use Rattle.tw_path.proofs.Starting.{gains_one}
use Rattle.tw_path.proofs.walker.start.copy_once.Goals as goal

pub returns : goal.returns
returns c =
    let hand = c.args.hand.now in
    let mine = c.args.mine.now in
    let tasks = c.args.tasks.now in
    subst (λ v. GainsCopy hand v mine tasks c.insert.new.self c.copy_task.new.part) (sym c.in-Some.is)
    (gains_one hand c.in-Some.uuid mine tasks (sym c.contains.ensures ∙ c.if-contains.false) c.insert.new.self (λ q. c.in_ok-insert.ensures.updates.0 q) c.copy_task.new.part c.in_ok-copy_task.ensures)
