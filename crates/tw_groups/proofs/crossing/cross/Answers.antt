use Rattle.std.proofs.Common.{rules, ◌≡◌, [], sym}
use Rattle.tw_groups.specs.Cross.{cross}
use Rattle.tw_groups.specs.Held.{groups_in}
use Rattle.tw_groups.proofs.Holding.{crossed_all, no_operation}
use Rattle.tw_groups.proofs.crossing.cross.Goals as goal

pub returns-else-not-is_empty : goal.returns-else-not-is_empty
returns-else-not-is_empty c =
    let none : c.loop-at.server.items ≡ [] = no_operation c.loop-at.server.items (search rules) in
    crossed_all c.loop-at.server.items c.loop-at.groups.items c.loop-at.at (cross c.args.server.now.items (groups_in c.args.groups.now.items)) none c.loop-at.invariant.1
