use Rattle.std.proofs.Common.{◌∙◌}
use Rattle.tw_hints.proofs.Utf8.{text_same, no_text}
use Rattle.tw_hints.proofs.refused.text_in.Goals as goal

pub returns-in-Ok : goal.returns-in-Ok
returns-in-Ok c = c.in-Ok.ensures.cases.0 ∙ text_same c.args.bytes.now c.in-Ok.ensures.cases.1

pub returns-in-Err : goal.returns-in-Err
returns-in-Err c = no_text c.args.bytes.now c.in-Err.ensures.cases.0
