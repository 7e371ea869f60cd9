use Rattle.std.proofs.Common.{arith}
use Rattle.timew_cmd.proofs.Window.{halved_edit}
use Rattle.timew_cmd.proofs.commands.split.split_each.Goals as goal

pub returns-clause-halved : goal.returns-clause-halved
returns-clause-halved c = halved_edit c.args.ids.now.given.now c.args.now c.args.rows.now c.in_ok-out.out.items c.window-at.result.0 c.window-at.result.1 c.window-at.ensures c.in_ok-out.ensures

pub returns-clause-inside : goal.returns-clause-inside
returns-clause-inside c = omega (arith, c.window-at.ensures.order, c.window-at.ensures.inside)
