use Rattle.std.proofs.Common.{◌∙◌, ap}
use Rattle.tw_settings.specs.Settings.{is_readable, is_readable_as}
use Rattle.tw_settings.proofs.known.is_readable.Goals as goal

pub returns : goal.returns
unfolding is_readable
returns c = c.is_readable_as.ensures ∙ ap (λ kind. is_readable_as kind c.args.value.now) c.kind_of.ensures
