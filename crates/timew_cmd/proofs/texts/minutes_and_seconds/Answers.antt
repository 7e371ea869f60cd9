use Rattle.std.proofs.Common.{◌/◌, ◌%◌}
use Rattle.timew_cmd.proofs.Digits.{minutes_ascii}
use Rattle.timew_cmd.proofs.texts.minutes_and_seconds.Goals as goal

pub returns-clause-ascii : goal.returns-clause-ascii
returns-clause-ascii c = minutes_ascii (c.args.seconds / 60 % 60) (c.args.seconds % 60)
