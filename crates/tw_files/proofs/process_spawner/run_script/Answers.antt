use Rattle.tw_files.proofs.Reading.{given_up}
use Rattle.tw_files.proofs.process_spawner.run_script.Goals as goal

pub returns-in-Err-read_all-clause-failed : goal.returns-in-Err-read_all-clause-failed
returns-in-Err-read_all-clause-failed g c =
    given_up _ g.S.Script.OpenScript.has_failed g.S.Script.OpenScript.is_given_up g.S.Script.OpenScript.remaining c.read_all.new.script c.finish.new.self c.in-Err-read_all.error
    (λ failed. c.finish.ensures.stopped (c.stop.ensures.stopped failed)) c.in-Err-read_all.ensures.failed
