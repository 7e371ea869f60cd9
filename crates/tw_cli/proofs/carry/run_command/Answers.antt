use Rattle.std.proofs.Common.{◌∙◌, inl, inr, sym, subst, ℕ, Result}
use Rattle.std.specs.Global.{Vec}
use Rattle.tw_world.specs.Sink.{Got, GotPart}
use Rattle.tw_cli.specs.Cause.{carry_cause, ended}
use Rattle.tw_cli.specs.Run.{Gives, Draws}
use Rattle.tw_cli.specs.Crash.{LeavesCommand}
use Rattle.tw_cli.specs.Hours.{DrivesHours}
use Rattle.tw_cli.specs.declared.carry.CarryError.{CarryError}
use Rattle.tw_cli.specs.declared.cause.Cause.TheVariants.{Done}
use Rattle.tw_cli.proofs.Endings.{at_end, ends_well, failed_gives}
use Rattle.tw_cli.proofs.Carrying.{done_drew, leaves_unprinted}
use Rattle.tw_cli.proofs.carry.run_command.Goals as goal

pub returns-in-Ok-clause-gives : goal.returns-in-Ok-clause-gives
returns-in-Ok-clause-gives g c =
    let s = c.in-Ok.ensures.shows in
    at_end g.O.Sink.model c.args.out.now c.print.new.out c.as_slice.result.now c.print.result (Gives g.D.Disk.model g.S.Source.model g.P.Spawner.model c.args.request c.args.ids.now c.args.disk.now c.carry_out.new.disk c.args.input.now c.carry_out.new.input c.args.spawner.now c.carry_out.new.spawner g.O.Sink.model c.args.out.now c.print.new.out) c.print.ensures
    (λ got. (s.0, s.1, (s.2.0, subst (Got g.O.Sink.model c.args.out.now c.print.new.out) (c.as_slice.ensures.value ∙ s.2.1) got)))
    (λ part rose. ((s.0, s.1, (s.2.0, subst (GotPart g.O.Sink.model c.args.out.now c.print.new.out) (c.as_slice.ensures.value ∙ s.2.1) part)), rose))

pub returns-in-Ok-clause-complete : goal.returns-in-Ok-clause-complete
returns-in-Ok-clause-complete g c = λ can well. ends_well g.O.Sink.model c.args.out.now c.print.new.out c.as_slice.result.now c.print.result c.print.ensures can.out_well

pub returns-in-Ok-clause-any_moment : goal.returns-in-Ok-clause-any_moment
returns-in-Ok-clause-any_moment g c =
    let left : LeavesCommand g.D.Disk.model g.S.Source.model g.P.Spawner.model c.args.request c.args.ids.now c.args.disk.now c.carry_out.new.disk c.args.input.now c.carry_out.new.input c.args.spawner.now c.carry_out.new.spawner Done =
    subst (λ (r : Result (Vec ℕ) CarryError). LeavesCommand g.D.Disk.model g.S.Source.model g.P.Spawner.model c.args.request c.args.ids.now c.args.disk.now c.carry_out.new.disk c.args.input.now c.carry_out.new.input c.args.spawner.now c.carry_out.new.spawner (ended carry_cause r)) c.in-Ok.is c.carry_out.ensures.any_moment in
    at_end g.O.Sink.model c.args.out.now c.print.new.out c.as_slice.result.now c.print.result (LeavesCommand g.D.Disk.model g.S.Source.model g.P.Spawner.model c.args.request c.args.ids.now c.args.disk.now c.carry_out.new.disk c.args.input.now c.carry_out.new.input c.args.spawner.now c.carry_out.new.spawner) c.print.ensures
    (λ got. left)
    (λ part rose. leaves_unprinted g.D.Disk.model g.S.Source.model c.args.request c.args.disk.now c.args.input.now c.carry_out.new.input g.P.Spawner.model c.args.ids.now c.carry_out.new.disk c.args.spawner.now c.carry_out.new.spawner left)

pub returns-in-Ok-clause-ids : goal.returns-in-Ok-clause-ids
returns-in-Ok-clause-ids g c =
    let left : Draws g.D.Disk.model g.S.Source.model c.args.request c.args.disk.now c.args.input.now c.carry_out.new.input c.args.ids.now c.carry_out.new.ids Done =
    subst (λ (r : Result (Vec ℕ) CarryError). Draws g.D.Disk.model g.S.Source.model c.args.request c.args.disk.now c.args.input.now c.carry_out.new.input c.args.ids.now c.carry_out.new.ids (ended carry_cause r)) c.in-Ok.is c.carry_out.ensures.ids in
    at_end g.O.Sink.model c.args.out.now c.print.new.out c.as_slice.result.now c.print.result (Draws g.D.Disk.model g.S.Source.model c.args.request c.args.disk.now c.args.input.now c.carry_out.new.input c.args.ids.now c.carry_out.new.ids) c.print.ensures
    (λ got. left) (λ part rose. inl (done_drew g.D.Disk.model g.S.Source.model c.args.request c.args.disk.now c.args.input.now c.carry_out.new.input c.args.ids.now c.carry_out.new.ids left))

pub returns-in-Err-clause-gives : goal.returns-in-Err-clause-gives
returns-in-Err-clause-gives g c =
    failed_gives g.D.Disk.model g.S.Source.model g.P.Spawner.model c.args.request c.args.ids.now c.args.disk.now c.carry_out.new.disk c.args.input.now c.carry_out.new.input c.args.spawner.now c.carry_out.new.spawner g.O.Sink.model c.args.out.now c.in-Err.error c.from.result c.from.ensures c.in-Err.ensures.refused

pub returns-in-Err-clause-complete : goal.returns-in-Err-clause-complete
returns-in-Err-clause-complete g c = λ can well. inr (c.from.ensures ∙ c.in-Err.ensures.complete can.can well)

pub returns-in-Err-clause-any_moment : goal.returns-in-Err-clause-any_moment
returns-in-Err-clause-any_moment g c =
    subst (LeavesCommand g.D.Disk.model g.S.Source.model g.P.Spawner.model c.args.request c.args.ids.now c.args.disk.now c.carry_out.new.disk c.args.input.now c.carry_out.new.input c.args.spawner.now c.carry_out.new.spawner) (sym c.from.ensures) c.in-Err.ensures.any_moment

pub returns-in-Err-clause-ids : goal.returns-in-Err-clause-ids
returns-in-Err-clause-ids g c =
    subst (Draws g.D.Disk.model g.S.Source.model c.args.request c.args.disk.now c.args.input.now c.carry_out.new.input c.args.ids.now c.carry_out.new.ids) (sym c.from.ensures) c.in-Err.ensures.ids

pub returns-in-Ok-clause-hours : goal.returns-in-Ok-clause-hours
returns-in-Ok-clause-hours g c =
    let left : DrivesHours g.D.Disk.model g.S.Source.model g.P.Spawner.model g.F.Folder.model g.J.Disk.model c.args.request c.args.ids.now c.args.disk.now c.carry_out.new.disk c.args.input.now c.carry_out.new.input c.args.spawner.now c.carry_out.new.spawner c.args.folder.now c.carry_out.new.folder c.args.track.now c.carry_out.new.track Done =
    subst (λ (r : Result (Vec ℕ) CarryError). DrivesHours g.D.Disk.model g.S.Source.model g.P.Spawner.model g.F.Folder.model g.J.Disk.model c.args.request c.args.ids.now c.args.disk.now c.carry_out.new.disk c.args.input.now c.carry_out.new.input c.args.spawner.now c.carry_out.new.spawner c.args.folder.now c.carry_out.new.folder c.args.track.now c.carry_out.new.track (ended carry_cause r)) c.in-Ok.is c.carry_out.ensures.hours in
    at_end g.O.Sink.model c.args.out.now c.print.new.out c.as_slice.result.now c.print.result (DrivesHours g.D.Disk.model g.S.Source.model g.P.Spawner.model g.F.Folder.model g.J.Disk.model c.args.request c.args.ids.now c.args.disk.now c.carry_out.new.disk c.args.input.now c.carry_out.new.input c.args.spawner.now c.carry_out.new.spawner c.args.folder.now c.carry_out.new.folder c.args.track.now c.carry_out.new.track) c.print.ensures
    (λ got. left)
    (λ part rose. record { gives = left.gives; because = tt; spares = left.spares; any_moment = left.any_moment; growth = left.growth; folder = left.folder; track = left.track })

pub returns-in-Err-clause-hours : goal.returns-in-Err-clause-hours
returns-in-Err-clause-hours g c =
    subst (DrivesHours g.D.Disk.model g.S.Source.model g.P.Spawner.model g.F.Folder.model g.J.Disk.model c.args.request c.args.ids.now c.args.disk.now c.carry_out.new.disk c.args.input.now c.carry_out.new.input c.args.spawner.now c.carry_out.new.spawner c.args.folder.now c.carry_out.new.folder c.args.track.now c.carry_out.new.track) (sym c.from.ensures) c.in-Err.ensures.hours
