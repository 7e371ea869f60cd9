use Rattle.std.proofs.Common.{◌∙◌, sym, ap, is_none}
use Rattle.tw_settings.specs.Settings.{trimmed}
use Rattle.tw_settings.specs.Reasons.{why_not_allowed}
use Rattle.tw_settings.proofs.NoReasons.{allowed_if_no_reason}
use Rattle.tw_settings.proofs.reasons.why_override_refused.Goals as goal

pub returns-clause-exactly : goal.returns-clause-exactly
returns-clause-exactly c =
    allowed_if_no_reason (trimmed c.args.name.now) (trimmed c.args.value.now)
    ∙ ap is_none (sym (c.why_not_allowed.ensures ∙ (λ i. why_not_allowed (c.trimmed.ensures i) (c.trimmed-2.ensures i))))
