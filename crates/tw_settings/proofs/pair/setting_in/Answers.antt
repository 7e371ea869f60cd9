use Rattle.std.proofs.Common.{◌∙◌, ap}
use Rattle.tw_settings.specs.Settings.{uncommented, setting_of}
use Rattle.tw_settings.proofs.Utf8.{text_sets, no_text_sets}
use Rattle.tw_settings.proofs.pair.setting_in.Goals as goal

pub returns-in-Ok : goal.returns-in-Ok
returns-in-Ok c =
    c.setting_of.ensures
    ∙ ap setting_of (c.uncommented.ensures ∙ ap uncommented c.in-Ok.ensures.cases.0)
    ∙ text_sets c.args.line.now c.in-Ok.ensures.cases.1

pub returns-in-Err : goal.returns-in-Err
returns-in-Err c = no_text_sets c.args.line.now c.in-Err.ensures.cases.0
