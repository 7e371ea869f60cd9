use Rattle.std.proofs.Common.{◌∙◌}
use Rattle.timew_cli.proofs.Growth.{load_grows, record_grows}
use Rattle.timew_cli.proofs.NotLoaded.{load_ends, load_wants}
use Rattle.timew_cli.proofs.Loaded.{load_leaves, ended_done, ended_badly, ended_wants, step_leaves}
use Rattle.timew_cli.proofs.carry.carry_out.Goals as goal

pub returns-in-Err-clause-refused : goal.returns-in-Err-clause-refused
returns-in-Err-clause-refused g c =
    load_ends g.F.Folder.model g.D.Disk.model c.args.command.now c.args.now c.args.zone.now c.args.folder.now c.load.new.folder c.args.disk.now c.load.new.disk c.in-Err.error c.in-Err.ensures.refused c.in-Err.ensures.stays c.load.ensures.any_moment

pub returns-in-Err-clause-complete : goal.returns-in-Err-clause-complete
returns-in-Err-clause-complete g c =
    load_wants g.F.Folder.model g.D.Disk.model c.args.command.now c.args.now c.args.zone.now c.args.folder.now c.load.new.folder c.args.disk.now c.load.new.disk c.in-Err.error c.in-Err.ensures.refused c.in-Err.ensures.sound

pub returns-in-Err-clause-any_moment : goal.returns-in-Err-clause-any_moment
returns-in-Err-clause-any_moment g c =
    load_leaves g.F.Folder.model g.D.Disk.model c.args.command.now c.args.now c.args.zone.now c.args.folder.now c.load.new.folder c.args.disk.now c.load.new.disk c.load.ensures.any_moment

pub returns-in-Ok-clause-done : goal.returns-in-Ok-clause-done
returns-in-Ok-clause-done g c =
    ended_done g.F.Folder.model g.D.Disk.model c.args.command.now c.args.now c.args.zone.now c.in-Ok.store c.args.folder.now c.load.new.folder c.carry_on.new.folder c.args.disk.now c.load.new.disk c.carry_on.new.disk c.in-Ok.ensures.loaded c.carry_on.result c.carry_on.ensures.ends

pub returns-in-Ok-clause-refused : goal.returns-in-Ok-clause-refused
returns-in-Ok-clause-refused g c =
    ended_badly g.F.Folder.model g.D.Disk.model c.args.command.now c.args.now c.args.zone.now c.in-Ok.store c.args.folder.now c.load.new.folder c.carry_on.new.folder c.args.disk.now c.load.new.disk c.carry_on.new.disk c.in-Ok.ensures.loaded
    g.met.F.Folder.seen_may_stay g.met.D.Disk.seen_may_stay g.met.D.Disk.counts_now c.load.ensures.folder c.load.ensures.disk c.load.ensures.any_moment c.carry_on.result c.carry_on.ensures.ends c.carry_on.ensures.faults

pub returns-in-Ok-clause-complete : goal.returns-in-Ok-clause-complete
returns-in-Ok-clause-complete g c =
    ended_wants g.F.Folder.model g.D.Disk.model c.args.command.now c.args.now c.args.zone.now c.in-Ok.store c.args.folder.now c.load.new.folder c.carry_on.new.folder c.args.disk.now c.load.new.disk c.carry_on.new.disk c.in-Ok.ensures.loaded
    c.load.ensures.folder c.load.ensures.disk c.carry_on.result c.carry_on.ensures.ends c.carry_on.ensures.faults

pub returns-in-Ok-clause-any_moment : goal.returns-in-Ok-clause-any_moment
returns-in-Ok-clause-any_moment g c =
    step_leaves g.F.Folder.model g.D.Disk.model c.args.command.now c.args.now c.args.zone.now c.in-Ok.store c.args.folder.now c.load.new.folder c.carry_on.new.folder c.args.disk.now c.load.new.disk c.carry_on.new.disk c.in-Ok.ensures.loaded c.load.ensures.any_moment c.carry_on.ensures.any_moment

-- ---- growth

pub returns-in-Err-clause-growth : goal.returns-in-Err-clause-growth
returns-in-Err-clause-growth g c = λ tells. load_grows g.D.Disk.model g.met.D.Disk.seen_may_stay c.args.disk.now c.load.new.disk tells (c.load.ensures.growth tells)

pub returns-in-Ok-clause-growth : goal.returns-in-Ok-clause-growth
returns-in-Ok-clause-growth g c = λ tells.
    let loaded = c.in-Ok.ensures.loaded tells in
    record_grows g.D.Disk.model g.met.D.Disk.seen_may_stay g.met.D.Disk.counts_now c.args.disk.now c.load.new.disk c.carry_on.new.disk tells (c.load.ensures.disk.tells ∙ tells) (c.load.ensures.growth tells) (c.carry_on.ensures.growth loaded.bodies loaded.open_on)
