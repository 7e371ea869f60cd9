use Rattle.std.proofs.Common.{◌∙◌, ap}
use Rattle.tw_time.specs.Tables.{look_up}
use Rattle.tw_settings.specs.Settings.{known}
use Rattle.tw_settings.proofs.known.kind_of.Goals as goal

pub returns : goal.returns
returns c = c.look_up.ensures ∙ ap (λ text. look_up text known) c.as_bytes.ensures.value
