use Rattle.std.proofs.Common.{◌∙◌, ◌+◌, ◌^◌, inl, refl, sym, subst, arith, Result}
use Rattle.tw_cli.specs.Cause.{carry_cause, ended}
use Rattle.tw_cli.specs.Hours.{HoursBy}
use Rattle.tw_cli.specs.Run.{Draws}
use Rattle.tw_cli.specs.declared.carry.CarryError.{CarryError}
use Rattle.tw_cli.specs.declared.carry.Made.{Made}
use Rattle.tw_cli.proofs.BothStores.{made_moments}
use Rattle.tw_cli.proofs.Carrying.{done_drew}
use Rattle.tw_cli.proofs.DrivenHours.{left_unopened}
use Rattle.tw_cli.proofs.DrivenRequest.{made_shows, made_refused, made_wants, made_leaves, made_hours, made_because, unmade_because, made_spares, made_ready, made_live, made_knows}
use Rattle.tw_cli.proofs.Endings.{carry_fails}
use Rattle.tw_cli.proofs.Growth.{nothing_grown, opening_grows, made_grows, hours_grow}
use Rattle.tw_cli.proofs.carry.carry_out.Goals as goal

pub write_made-requires : goal.write_made-requires
write_made-requires g c = record {
  length = made_ready g.D.Disk.model g.S.Source.model g.P.Spawner.model g.F.Folder.model g.J.Disk.model c.args.request c.args.ids.now c.args.disk.now c.make.new.disk c.make.new.disk c.args.input.now c.make.new.input c.args.spawner.now c.make.new.spawner c.args.folder.now c.args.folder.now c.args.track.now c.args.track.now c.in-Ok.made c.in-Ok.ensures.made c.make.ensures.kept;
  live = made_live g.D.Disk.model g.S.Source.model g.P.Spawner.model g.F.Folder.model g.J.Disk.model c.args.request c.args.ids.now c.args.disk.now c.make.new.disk c.make.new.disk c.args.input.now c.make.new.input c.args.spawner.now c.make.new.spawner c.args.folder.now c.args.folder.now c.args.track.now c.args.track.now c.in-Ok.made c.in-Ok.ensures.made c.make.ensures.kept;
  before = made_knows g.D.Disk.model g.S.Source.model g.P.Spawner.model g.F.Folder.model g.J.Disk.model c.args.request c.args.ids.now c.args.disk.now c.make.new.disk c.make.new.disk c.args.input.now c.make.new.input c.args.spawner.now c.make.new.spawner c.args.folder.now c.args.folder.now c.args.track.now c.args.track.now c.in-Ok.made c.in-Ok.ensures.made c.make.ensures.kept;
}

pub returns-in-Ok-clause-shows : goal.returns-in-Ok-clause-shows
returns-in-Ok-clause-shows g c = made_shows g.D.Disk.model g.S.Source.model g.P.Spawner.model g.F.Folder.model g.J.Disk.model c.args.request c.args.ids.now c.args.disk.now c.make.new.disk c.write_made.new.disk c.args.input.now c.make.new.input c.args.spawner.now c.make.new.spawner c.args.folder.now c.write_made.new.folder c.args.track.now c.write_made.new.track c.in-Ok.made c.in-Ok.ensures.made c.make.ensures.kept c.write_made.result c.write_made.ensures.ends

pub returns-in-Ok-clause-refused : goal.returns-in-Ok-clause-refused
returns-in-Ok-clause-refused g c = made_refused g.D.Disk.model g.S.Source.model g.P.Spawner.model g.F.Folder.model g.J.Disk.model c.args.request c.args.ids.now c.args.disk.now c.make.new.disk c.write_made.new.disk c.args.input.now c.make.new.input c.args.spawner.now c.make.new.spawner c.args.folder.now c.write_made.new.folder c.args.track.now c.write_made.new.track c.in-Ok.made c.in-Ok.ensures.made c.make.ensures.kept c.write_made.result c.write_made.ensures.ends

pub returns-in-Ok-clause-complete : goal.returns-in-Ok-clause-complete
returns-in-Ok-clause-complete g c = made_wants g.D.Disk.model g.S.Source.model g.P.Spawner.model g.F.Folder.model g.J.Disk.model c.args.request c.args.ids.now c.args.disk.now c.make.new.disk c.write_made.new.disk c.args.input.now c.make.new.input c.args.spawner.now c.make.new.spawner c.args.folder.now c.write_made.new.folder c.args.track.now c.write_made.new.track c.in-Ok.made c.in-Ok.ensures.made c.make.ensures.kept c.write_made.result c.write_made.ensures.ends

pub returns-in-Ok-clause-any_moment : goal.returns-in-Ok-clause-any_moment
returns-in-Ok-clause-any_moment g c = made_leaves g.D.Disk.model g.S.Source.model g.P.Spawner.model g.F.Folder.model g.J.Disk.model c.args.request c.args.ids.now c.args.disk.now c.make.new.disk c.write_made.new.disk c.args.input.now c.make.new.input c.args.spawner.now c.make.new.spawner c.args.folder.now c.write_made.new.folder c.args.track.now c.write_made.new.track c.in-Ok.made c.in-Ok.ensures.made c.make.ensures.kept c.write_made.result c.write_made.ensures.ends

pub returns-in-Ok-clause-growth : goal.returns-in-Ok-clause-growth
returns-in-Ok-clause-growth g c = made_grows g.D.Disk.model g.met.D.Disk.seen_may_stay g.met.D.Disk.counts_now g.S.Source.model g.P.Spawner.model c.args.request c.args.ids.now c.args.disk.now c.make.new.disk c.write_made.new.disk c.args.input.now c.make.new.input c.args.spawner.now c.make.new.spawner c.in-Ok.made c.in-Ok.ensures.made c.make.ensures.kept c.make.ensures.growth c.write_made.ensures.growth

pub returns-in-Ok-clause-hours : goal.returns-in-Ok-clause-hours
returns-in-Ok-clause-hours g c = record {
  gives = made_hours g.D.Disk.model g.S.Source.model g.P.Spawner.model g.F.Folder.model g.J.Disk.model c.args.request c.args.ids.now c.args.disk.now c.make.new.disk c.write_made.new.disk c.args.input.now c.make.new.input c.args.spawner.now c.make.new.spawner c.args.folder.now c.write_made.new.folder c.args.track.now c.write_made.new.track c.in-Ok.made c.in-Ok.ensures.made c.make.ensures.kept g.met.F.Folder.seen_may_stay g.met.J.Disk.seen_may_stay c.write_made.result c.write_made.ensures.ends;
  because = made_because g.D.Disk.model g.S.Source.model g.P.Spawner.model g.F.Folder.model g.J.Disk.model c.args.request c.args.ids.now c.args.disk.now c.make.new.disk c.write_made.new.disk c.args.input.now c.make.new.input c.args.spawner.now c.make.new.spawner c.args.folder.now c.write_made.new.folder c.args.track.now c.write_made.new.track c.in-Ok.made c.in-Ok.ensures.made c.make.ensures.kept c.write_made.result c.write_made.ensures.ends;
  spares = made_spares g.D.Disk.model g.S.Source.model g.P.Spawner.model g.F.Folder.model g.J.Disk.model c.args.request c.args.ids.now c.args.disk.now c.make.new.disk c.write_made.new.disk c.args.input.now c.make.new.input c.args.spawner.now c.make.new.spawner c.args.folder.now c.write_made.new.folder c.args.track.now c.write_made.new.track c.in-Ok.made c.in-Ok.ensures.made c.make.ensures.kept c.write_made.result c.write_made.ensures.ends;
  any_moment = made_moments g.D.Disk.model g.met.D.Disk.only_now g.met.D.Disk.counts_now g.S.Source.model g.P.Spawner.model g.F.Folder.model g.J.Disk.model c.args.request c.args.ids.now c.args.disk.now c.make.new.disk c.write_made.new.disk c.args.input.now c.make.new.input c.args.spawner.now c.make.new.spawner c.args.folder.now c.write_made.new.folder c.args.track.now c.write_made.new.track c.in-Ok.made c.in-Ok.ensures.made c.write_made.result c.write_made.ensures.ends;
  growth = hours_grow g.J.Disk.model g.met.J.Disk.seen_may_stay g.met.J.Disk.counts_now g.D.Disk.model g.F.Folder.model c.in-Ok.made c.make.new.disk c.write_made.new.disk c.args.folder.now c.write_made.new.folder c.args.track.now c.write_made.new.track c.write_made.result c.write_made.ensures.ends;
  folder = c.write_made.ensures.folder;
  track = c.write_made.ensures.track;
}

pub returns-in-Ok-clause-ids : goal.returns-in-Ok-clause-ids
returns-in-Ok-clause-ids g c =
    inl (done_drew g.D.Disk.model g.S.Source.model c.args.request c.args.disk.now c.args.input.now c.make.new.input c.args.ids.now c.make.new.ids
    (subst (λ (r : Result Made CarryError). Draws g.D.Disk.model g.S.Source.model c.args.request c.args.disk.now c.args.input.now c.make.new.input c.args.ids.now c.make.new.ids (ended carry_cause r)) c.in-Ok.is c.make.ensures.ids))

pub returns-in-Ok-clause-kept : goal.returns-in-Ok-clause-kept
returns-in-Ok-clause-kept g c = record { faults = omega (arith, c.make.ensures.kept.faults, c.write_made.ensures.kept.faults); tells = c.write_made.ensures.kept.tells ∙ c.make.ensures.kept.tells }

-- nothing is made
pub returns-in-Err-clause-complete : goal.returns-in-Err-clause-complete
returns-in-Err-clause-complete g c = λ can well. c.in-Err.ensures.complete can

pub returns-in-Err-clause-any_moment : goal.returns-in-Err-clause-any_moment
returns-in-Err-clause-any_moment g c = inl c.make.ensures.any_moment

pub returns-in-Err-clause-growth : goal.returns-in-Err-clause-growth
returns-in-Err-clause-growth g c = opening_grows g.D.Disk.model g.met.D.Disk.seen_may_stay c.args.disk.now c.make.new.disk c.make.ensures.growth

pub returns-in-Err-clause-hours : goal.returns-in-Err-clause-hours
returns-in-Err-clause-hours g c = record {
  gives = subst (HoursBy g.D.Disk.model g.S.Source.model g.P.Spawner.model g.F.Folder.model g.J.Disk.model c.args.request c.args.ids.now c.args.disk.now c.make.new.disk c.args.input.now c.make.new.input c.args.spawner.now c.make.new.spawner c.args.folder.now c.args.folder.now c.args.track.now c.args.track.now (carry_cause c.in-Err.error))
      (sym (carry_fails c.in-Err.error)) (left_unopened g.F.Folder.model g.J.Disk.model c.args.folder.now c.args.folder.now c.args.track.now c.args.track.now c.in-Err.error c.in-Err.ensures.unopened (refl, refl));
  because = unmade_because g.D.Disk.model g.S.Source.model g.P.Spawner.model g.F.Folder.model g.J.Disk.model c.args.request c.args.ids.now c.args.disk.now c.make.new.disk c.args.input.now c.make.new.input c.args.spawner.now c.make.new.spawner c.args.folder.now c.args.folder.now c.args.track.now c.args.track.now c.in-Err.error c.in-Err.ensures.unopened c.in-Err.ensures.refused;
  spares = λ off. (refl, refl);
  any_moment = inl (refl, refl);
  growth = nothing_grown g.J.Disk.model g.met.J.Disk.only_now c.args.track.now (2 ^ 30 + 29);
  folder = record { faults = omega arith; tells = refl };
  track = record { faults = omega arith; tells = refl };
}
