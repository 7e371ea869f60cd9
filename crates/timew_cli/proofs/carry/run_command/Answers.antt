use Rattle.std.proofs.Common.{inr, ◌∙◌}
use Rattle.timew_cli.specs.Run.{went}
use Rattle.timew_cli.specs.Step.{shown_text}
use Rattle.timew_cli.proofs.Runs.{printed_gives, printed_ends, failed_gives}
use Rattle.timew_cli.proofs.carry.run_command.Goals as goal

pub returns-in-Ok-clause-gives : goal.returns-in-Ok-clause-gives
returns-in-Ok-clause-gives g c =
    printed_gives g.F.Folder.model g.D.Disk.model g.O.Sink.model c.args.command.now c.args.now c.args.zone.now (went c.args.folder.now c.carry_out.new.folder c.args.disk.now c.carry_out.new.disk) c.args.out.now c.print_shown.new.out (shown_text c.in-Ok.shown) c.print_shown.result
    c.print_shown.ensures c.in-Ok.ensures.done

pub returns-in-Ok-clause-complete : goal.returns-in-Ok-clause-complete
returns-in-Ok-clause-complete g c = λ can.
    printed_ends g.F.Folder.model g.D.Disk.model g.O.Sink.model c.args.command.now c.args.now c.args.zone.now (went c.args.folder.now c.carry_out.new.folder c.args.disk.now c.carry_out.new.disk) c.args.out.now c.print_shown.new.out (shown_text c.in-Ok.shown) c.print_shown.result
    c.print_shown.ensures can

pub returns-in-Err-clause-gives : goal.returns-in-Err-clause-gives
returns-in-Err-clause-gives g c =
    failed_gives g.F.Folder.model g.D.Disk.model g.O.Sink.model c.args.command.now c.args.now c.args.zone.now (went c.args.folder.now c.carry_out.new.folder c.args.disk.now c.carry_out.new.disk) c.args.out.now c.in-Err.error c.from.result c.from.ensures c.in-Err.ensures.refused

pub returns-in-Err-clause-complete : goal.returns-in-Err-clause-complete
returns-in-Err-clause-complete g c = λ can. inr (c.from.ensures ∙ c.in-Err.ensures.complete can.can)
