use Rattle.std.proofs.Common.{sym, subst, refl, true, false, Option}
use Rattle.timew_store.specs.declared.prepare.PreparedChange.{PreparedChange}
use Rattle.tw_cli.specs.Growth.{ChangeGrows}
use Rattle.tw_cli.specs.Ready.{CanBeWritten, HoursEnd, HoursLeave}
use Rattle.tw_cli.proofs.LoadedHours.{change_failed}
use Rattle.tw_cli.proofs.hours.write_hours.Goals as goal

pub write-requires : goal.write-requires
write-requires g c =
    let w = subst (CanBeWritten g.J.Disk.model c.args.track.now) c.in-Some.is c.requires in
    record { prepared = w.0; length = w.1 }

-- there is no change
pub returns-in_default-clause-ended : goal.returns-in_default-clause-ended
returns-in_default-clause-ended g c =
    subst (λ (change : Option PreparedChange). HoursEnd g.F.Folder.model g.J.Disk.model c.args.folder.now c.args.folder.now c.args.track.now c.args.track.now change true) (sym c.in_default.is) (refl, (refl, refl))

pub returns-in_default-clause-any_moment : goal.returns-in_default-clause-any_moment
returns-in_default-clause-any_moment g c =
    subst (HoursLeave g.F.Folder.model g.J.Disk.model c.args.folder.now c.args.folder.now c.args.track.now c.args.track.now) (sym c.in_default.is) (refl, refl)

-- it is written
pub returns-in-Ok-clause-ended : goal.returns-in-Ok-clause-ended
returns-in-Ok-clause-ended g c =
    subst (λ (change : Option PreparedChange). HoursEnd g.F.Folder.model g.J.Disk.model c.args.folder.now c.write.new.folder c.args.track.now c.write.new.disk change true) (sym c.in-Some.is)
    (c.in-Ok.store, c.in-Ok.ensures.changed, c.in-Ok.ensures.rows)

pub returns-in-Ok-clause-any_moment : goal.returns-in-Ok-clause-any_moment
returns-in-Ok-clause-any_moment g c =
    subst (HoursLeave g.F.Folder.model g.J.Disk.model c.args.folder.now c.write.new.folder c.args.track.now c.write.new.disk) (sym c.in-Some.is) c.write.ensures.any_moment

-- folder or journal failed
pub returns-in-Err-clause-ended : goal.returns-in-Err-clause-ended
returns-in-Err-clause-ended g c =
    let w = subst (CanBeWritten g.J.Disk.model c.args.track.now) c.in-Some.is c.requires in
    subst (λ (change : Option PreparedChange). HoursEnd g.F.Folder.model g.J.Disk.model c.args.folder.now c.write.new.folder c.args.track.now c.write.new.disk change false) (sym c.in-Some.is)
    (change_failed g.F.Folder.model g.J.Disk.model c.args.folder.now c.write.new.folder c.args.track.now c.write.new.disk w.0.0 w.0.1 c.in-Some.change w.0.2 c.in-Err.field-0 c.in-Err.ensures.refused)

pub returns-in-Err-clause-any_moment : goal.returns-in-Err-clause-any_moment
returns-in-Err-clause-any_moment g c =
    subst (HoursLeave g.F.Folder.model g.J.Disk.model c.args.folder.now c.write.new.folder c.args.track.now c.write.new.disk) (sym c.in-Some.is) c.write.ensures.any_moment

-- how much longer it makes the journal
pub returns-in_default-clause-growth : goal.returns-in_default-clause-growth
returns-in_default-clause-growth g c = subst (ChangeGrows g.J.Disk.model c.args.track.now c.args.track.now) (sym c.in_default.is) refl

pub returns-in-Ok-clause-growth : goal.returns-in-Ok-clause-growth
returns-in-Ok-clause-growth g c = subst (ChangeGrows g.J.Disk.model c.args.track.now c.write.new.disk) (sym c.in-Some.is) (λ store edit prepared. (c.write.ensures.growth store edit prepared).0)

pub returns-in-Err-clause-growth : goal.returns-in-Err-clause-growth
returns-in-Err-clause-growth g c = subst (ChangeGrows g.J.Disk.model c.args.track.now c.write.new.disk) (sym c.in-Some.is) (λ store edit prepared. (c.write.ensures.growth store edit prepared).0)
