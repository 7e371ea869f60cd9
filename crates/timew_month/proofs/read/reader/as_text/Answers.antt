use Rattle.timew_interval.proofs.RisingTags.{utf8_is, utf8_is_not}
use Rattle.timew_month.proofs.read.reader.as_text.Goals as goal

pub returns-in-Ok-clause-text : goal.returns-in-Ok-clause-text
returns-in-Ok-clause-text c = (utf8_is c.args.bytes.now c.in-Ok.ensures.cases.1, c.in-Ok.ensures.cases.0)

pub returns-in-Err-clause-utf8 : goal.returns-in-Err-clause-utf8
returns-in-Err-clause-utf8 c = λ none. utf8_is_not c.args.bytes.now c.in-Err.ensures.cases.0
