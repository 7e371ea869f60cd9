use Rattle.std.proofs.Common.{subst, refl, inl, inr}
use Rattle.tw_journal.specs.Journal.{is_closed}
use Rattle.tw_replica.specs.Prepared.{PreparedRefused}
use Rattle.tw_replica.specs.declared.error.WriteError.TheVariants.{Closed}
use Rattle.tw_cli.specs.Ready.{HoursEnd}
use Rattle.tw_cli.proofs.Growth.{unwritten_grows}
use Rattle.tw_cli.proofs.Openings.{no_longer}
use Rattle.tw_cli.proofs.carry.write_both.Goals as goal

-- both are written
pub returns-then-write_hours-clause-ends : goal.returns-then-write_hours-clause-ends
returns-then-write_hours-clause-ends g c = (
  record { replica = c.in-Ok.replica; state = c.in-Ok.ensures.state; journal = c.in-Ok.ensures.journal; within = c.in-Ok.ensures.within },
  subst (HoursEnd g.F.Folder.model g.J.Disk.model c.args.folder.now c.write_hours.new.folder c.args.track.now c.write_hours.new.track c.args.hours) c.if-write_hours.true c.write_hours.ensures.ended,
)

pub returns-then-write_hours-clause-any_moment : goal.returns-then-write_hours-clause-any_moment
returns-then-write_hours-clause-any_moment g c = record {
  disk = c.write.ensures.any_moment;
  hours_after = inr (record { replica = c.in-Ok.replica; state = c.in-Ok.ensures.state; journal = c.in-Ok.ensures.journal; within = c.in-Ok.ensures.within }, c.write_hours.ensures.any_moment);
  growth = c.write_hours.ensures.growth;
}

-- the hours failed
pub returns-in-Ok-clause-ends : goal.returns-in-Ok-clause-ends
returns-in-Ok-clause-ends g c = (
  record { replica = c.in-Ok.replica; state = c.in-Ok.ensures.state; journal = c.in-Ok.ensures.journal; within = c.in-Ok.ensures.within },
  subst (HoursEnd g.F.Folder.model g.J.Disk.model c.args.folder.now c.write_hours.new.folder c.args.track.now c.write_hours.new.track c.args.hours) c.if-write_hours.false c.write_hours.ensures.ended,
)

pub returns-in-Ok-clause-any_moment : goal.returns-in-Ok-clause-any_moment
returns-in-Ok-clause-any_moment g c = record {
  disk = c.write.ensures.any_moment;
  hours_after = inr (record { replica = c.in-Ok.replica; state = c.in-Ok.ensures.state; journal = c.in-Ok.ensures.journal; within = c.in-Ok.ensures.within }, c.write_hours.ensures.any_moment);
  growth = c.write_hours.ensures.growth;
}

-- the record is not written
pub returns-in-Err-Disk-clause-ends : goal.returns-in-Err-Disk-clause-ends
returns-in-Err-Disk-clause-ends g c =
    (subst (PreparedRefused g.D.Disk.model c.args.prepared c.args.disk.now c.write.new.disk) c.in-Err-Disk.field-0-is c.in-Err-Disk.ensures.refused, (refl, refl))

pub returns-in-Err-Disk-clause-any_moment : goal.returns-in-Err-Disk-clause-any_moment
returns-in-Err-Disk-clause-any_moment g c = record { disk = c.write.ensures.any_moment; hours_after = inl (refl, refl); growth = unwritten_grows g.J.Disk.model g.met.J.Disk.only_now c.args.track.now c.args.hours }

pub returns-in-Err-TooLong-clause-ends : goal.returns-in-Err-TooLong-clause-ends
returns-in-Err-TooLong-clause-ends g c =
    (subst (PreparedRefused g.D.Disk.model c.args.prepared c.args.disk.now c.write.new.disk) c.in-Err-TooLong.field-0-is c.in-Err-TooLong.ensures.refused, (refl, refl))

pub returns-in-Err-TooLong-clause-any_moment : goal.returns-in-Err-TooLong-clause-any_moment
returns-in-Err-TooLong-clause-any_moment g c = record { disk = c.write.ensures.any_moment; hours_after = inl (refl, refl); growth = unwritten_grows g.J.Disk.model g.met.J.Disk.only_now c.args.track.now c.args.hours }

pub unreachable-requires : goal.unreachable-requires
unreachable-requires g c =
    let r : PreparedRefused g.D.Disk.model c.args.prepared c.args.disk.now c.write.new.disk Closed = subst (PreparedRefused g.D.Disk.model c.args.prepared c.args.disk.now c.write.new.disk) c.in-Err-Closed.field-0-is c.in-Err-Closed.ensures.refused in
    no_longer (is_closed c.args.prepared.journal) r.0 c.requires.live
