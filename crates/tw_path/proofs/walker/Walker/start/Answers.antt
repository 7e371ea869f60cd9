use Rattle.std.proofs.Common.{◌∙◌}
use Rattle.tw_path.specs.declared.walker.Walker.{Walker}
use Rattle.tw_path.proofs.Starting.{starts, starts_there}
use Rattle.tw_path.proofs.walker.Walker.start.Goals as goal

pub take_back_all-requires : goal.take_back_all-requires
take_back_all-requires c =
    let walker : Walker = record { at = c.args.base; mine = c.new-mine.result; tasks = c.new-tasks.result; there = c.new-there.result; left = c.new-left.result; carried = c.new-carried.result } in
    starts c.args.hand.now walker (c.new-there.ensures c.args.hand.now) c.new-mine.ensures.empty c.new-tasks.ensures

pub returns : goal.returns
returns c =
    let done : Walker = c.take_back_all.new.self in
    let before = c.in_ok-take_back_all.ensures.before in
    let walker : Walker = record { at = done.at; mine = done.mine; tasks = done.tasks; there = done.there; left = c.in_ok-walker.field-0; carried = done.carried } in
    starts_there c.args.hand.now c.args.base c.args.pending.items walker (record { there = before.there; part = before.part; none = before.none; mine = before.mine })
    c.take_back_all.ensures.at c.in_ok-walker.ensures (c.take_back_all.ensures.carried ∙ c.new-carried.ensures)
