use Rattle.std.proofs.Common.{◌∙◌, inl, inr, refl, subst, arith}
use Rattle.std.specs.Prelude.{length, min, ◌^◌}
use Rattle.tw_journal.specs.Record.{rows}
use Rattle.tw_replica.specs.Prepared.{prepared_state, prepared_bodies}
use Rattle.tw_cli.specs.Ready.{WriteEnds}
use Rattle.tw_cli.proofs.Growth.{nothing_longer}
use Rattle.tw_cli.proofs.LoadedHours.{ready_written}
use Rattle.tw_cli.proofs.carry.write_made.Goals as goal

pub write_both-requires : goal.write_both-requires
write_both-requires g c = record {
  length = c.requires.length;
  live = c.requires.live;
  hours = ready_written g.F.Folder.model g.J.Disk.model c.args.made.before c.args.made.at.seconds (prepared_state c.args.made.ready.prepared) c.args.folder.now c.ready_hours.new.folder c.args.track.now c.ready_hours.new.track c.in-Ok.hours c.in-Ok.ensures.ready;
}

-- the hours are not ready
pub returns-in-Err-clause-ends : goal.returns-in-Err-clause-ends
returns-in-Err-clause-ends g c = inl (record { refused = c.in-Err.ensures.refused; leaves = c.ready_hours.ensures.any_moment; growth = c.ready_hours.ensures.growth; disk = refl })

-- the record is written
pub returns-in-None-clause-ends : goal.returns-in-None-clause-ends
returns-in-None-clause-ends g c = (
  refl,
  record {
    mid = c.ready_hours.new.folder;
    track = c.ready_hours.new.track;
    hours = c.in-Ok.hours;
    ready = c.in-Ok.ensures.ready;
    loaded = c.ready_hours.ensures.any_moment;
    growth = c.ready_hours.ensures.growth;
    folder_kept = c.ready_hours.ensures.folder;
    track_kept = c.ready_hours.ensures.track;
    ends = subst (WriteEnds g.D.Disk.model g.F.Folder.model g.J.Disk.model c.args.made.ready.prepared c.args.disk.now c.write_both.new.disk c.ready_hours.new.folder c.write_both.new.folder c.ready_hours.new.track c.write_both.new.track c.in-Ok.hours) c.in-None.is c.write_both.ensures.ends;
    leaves = c.write_both.ensures.any_moment;
  },
)

-- it is refused, or the hours failed
pub returns-clause-ends : goal.returns-clause-ends
returns-clause-ends g c = inr (record {
  mid = c.ready_hours.new.folder;
  track = c.ready_hours.new.track;
  hours = c.in-Ok.hours;
  ready = c.in-Ok.ensures.ready;
  loaded = c.ready_hours.ensures.any_moment;
  growth = c.ready_hours.ensures.growth;
  folder_kept = c.ready_hours.ensures.folder;
  track_kept = c.ready_hours.ensures.track;
  ends = subst (WriteEnds g.D.Disk.model g.F.Folder.model g.J.Disk.model c.args.made.ready.prepared c.args.disk.now c.write_both.new.disk c.ready_hours.new.folder c.write_both.new.folder c.ready_hours.new.track c.write_both.new.track c.in-Ok.hours) c.in-Some.is c.write_both.ensures.ends;
  leaves = c.write_both.ensures.any_moment;
})

-- faults never fall
pub returns-in-None-clause-folder : goal.returns-in-None-clause-folder
returns-in-None-clause-folder g c = record { faults = omega (arith, c.ready_hours.ensures.folder.faults, c.write_both.ensures.folder.faults); tells = c.write_both.ensures.folder.tells ∙ c.ready_hours.ensures.folder.tells }

pub returns-in-None-clause-track : goal.returns-in-None-clause-track
returns-in-None-clause-track g c = record { faults = omega (arith, c.ready_hours.ensures.track.faults, c.write_both.ensures.track.faults); tells = c.write_both.ensures.track.tells ∙ c.ready_hours.ensures.track.tells }

pub returns-clause-folder : goal.returns-clause-folder
returns-clause-folder g c = record { faults = omega (arith, c.ready_hours.ensures.folder.faults, c.write_both.ensures.folder.faults); tells = c.write_both.ensures.folder.tells ∙ c.ready_hours.ensures.folder.tells }

pub returns-clause-track : goal.returns-clause-track
returns-clause-track g c = record { faults = omega (arith, c.ready_hours.ensures.track.faults, c.write_both.ensures.track.faults); tells = c.write_both.ensures.track.tells ∙ c.ready_hours.ensures.track.tells }

-- nothing is written
pub returns-in-Err-clause-growth : goal.returns-in-Err-clause-growth
returns-in-Err-clause-growth g c = λ bodies on. nothing_longer g.D.Disk.model g.met.D.Disk.only_now c.args.disk.now (min (length (rows (prepared_bodies c.args.made.ready.prepared))) (2 ^ 30))
