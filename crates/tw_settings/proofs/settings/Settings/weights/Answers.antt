use Rattle.std.proofs.Common.{◌∙◌, ap}
use Rattle.tw_urgency.specs.declared.coefficients.Coefficients.{Coefficients}
use Rattle.tw_settings.specs.Weights.{weights_over}
use Rattle.tw_settings.proofs.settings.Settings.weights.Goals as goal

pub returns-clause-value : goal.returns-clause-value
returns-clause-value c = c.weights_over.ensures.value ∙ ap (λ (w : Coefficients). weights_over w c.args.self.now) c.defaults.ensures.value
