use Rattle.std.proofs.Common.{◌∙◌, ap}
use Rattle.tw_settings.specs.Settings.{uncommented}
use Rattle.tw_settings.specs.Reasons.{why_unset}
use Rattle.tw_settings.proofs.Utf8.{text_reason, no_text_reason}
use Rattle.tw_settings.proofs.reasons.reason_in.Goals as goal

pub returns-in-Ok : goal.returns-in-Ok
returns-in-Ok c =
    c.why_unset.ensures
    ∙ ap why_unset (c.uncommented.ensures ∙ ap uncommented c.in-Ok.ensures.cases.0)
    ∙ text_reason c.args.line.now c.in-Ok.ensures.cases.1

pub returns-in-Err : goal.returns-in-Err
returns-in-Err c = no_text_reason c.args.line.now c.in-Err.ensures.cases.0
