use Rattle.std.proofs.Common.{map}
use Rattle.std.specs.Prelude.{string_bytes}
use Rattle.timew_words.specs.Reading.{command_of}
use Rattle.timew_cli.specs.Run.{went}
use Rattle.timew_cli.proofs.Runs.{command_is_run, error_is_run}
use Rattle.timew_cli.proofs.run.run_words.Goals as goal

pub returns-in-Ok : goal.returns-in-Ok
returns-in-Ok g c =
    command_is_run g.F.Folder.model g.D.Disk.model g.O.Sink.model (command_of (map string_bytes c.args.words.now.items) c.args.now.seconds c.args.zone.now) c.in-Ok.command c.args.now.seconds c.args.zone.now
    (went c.args.folder.now c.run_command.new.folder c.args.journal.now c.run_command.new.disk) c.args.out.now c.run_command.new.out c.run_command.result
    c.in-Ok.ensures.value c.run_command.ensures.gives c.run_command.ensures.complete c.run_command.ensures.any_moment c.run_command.ensures.growth c.run_command.ensures.folder c.run_command.ensures.disk

pub returns-in-Err : goal.returns-in-Err
returns-in-Err g c =
    error_is_run g.F.Folder.model g.D.Disk.model g.O.Sink.model g.met.D.Disk.only_now (command_of (map string_bytes c.args.words.now.items) c.args.now.seconds c.args.zone.now) c.in-Err.error c.args.now.seconds c.args.zone.now
    c.args.folder.now c.args.journal.now c.args.out.now c.from.result c.in-Err.ensures.value c.from.ensures
