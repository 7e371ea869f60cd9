use Rattle.timew_cmd.proofs.Digits.{clock_ascii}
use Rattle.timew_cmd.proofs.texts.clock_bytes.Goals as goal

pub returns-clause-ascii : goal.returns-clause-ascii
returns-clause-ascii c = clock_ascii c.args.clock
