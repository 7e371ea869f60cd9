use Rattle.std.proofs.Common.{sym, subst}
use Rattle.tw_path.specs.Over.{over_all}
use Rattle.tw_path.specs.Walk.{StandsAt}
use Rattle.tw_path.proofs.Walking.{pull_is_over}
use Rattle.tw_path.proofs.walker.Walker.pull.Goals as goal

pub returns : goal.returns
returns c = λ r v e s.
    let w : StandsAt c.args.hand.now (over_all r c.args.ops.now.items) c.go_over_all.new.self = c.in_ok-go_over_all.ensures r s in
    subst (λ x. StandsAt c.args.hand.now x (record { at = c.args.id; mine = c.go_over_all.new.self.mine; tasks = c.go_over_all.new.self.tasks; there = c.go_over_all.new.self.there; left = c.go_over_all.new.self.left; carried = c.go_over_all.new.self.carried }))
    (pull_is_over r v c.args.ops.now.items)
    (record { at = sym e; there = w.there; part = w.part; mine = w.mine; left = w.left; carried = w.carried })
