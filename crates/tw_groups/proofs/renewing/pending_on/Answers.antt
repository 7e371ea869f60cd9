use Rattle.std.proofs.Common.{◌≡◌, ◌<◌, length, get_or, arith, rules}
use Rattle.tw_model.specs.Ops.{apply_all}
use Rattle.tw_groups.specs.Groups.{joined, pending_on}
use Rattle.tw_groups.specs.Held.{groups_in}
use Rattle.tw_groups.proofs.Holding.{group_turn, tasks_turn}
use Rattle.tw_groups.proofs.renewing.pending_on.Goals as goal

pub loop-at-preserved : goal.loop-at-preserved
loop-at-preserved c =
    let inside : c.loop-at.at < length c.args.groups.now.items = omega arith in
    let is : c.index.result.now ≡ get_or c.args.groups.now.items c.loop-at.at c.index.result.now = search rules in (
      group_turn c.loop-at.ops.items c.put_group.new.ops.items c.loop-at.tasks c.put_group.new.tasks c.args.groups.now.items c.loop-at.at c.index.result.now (pending_on c.args.tasks.now (groups_in c.args.groups.now.items)) inside is c.in_ok-put_group.ensures.ops c.in_ok-put_group.ensures.tasks c.loop-at.invariant.0,
      tasks_turn c.loop-at.tasks c.put_group.new.tasks c.args.groups.now.items c.loop-at.at c.index.result.now (apply_all c.args.tasks.now (joined (groups_in c.args.groups.now.items))) inside is c.in_ok-put_group.ensures.tasks c.loop-at.invariant.1,
    )
