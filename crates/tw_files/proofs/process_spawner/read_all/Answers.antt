use Rattle.tw_files.proofs.Reading.{unread}
use Rattle.tw_files.proofs.process_spawner.read_all.Goals as goal

pub returns-in-Ok-clause-failed : goal.returns-in-Ok-clause-failed
returns-in-Ok-clause-failed g c = unread c.read_on.result g.P.OpenScript.has_failed g.P.OpenScript.remaining c.read_output.new.script c.read_on.new.script c.read_on.ensures.failed
