use Rattle.std.proofs.Common.{◌∙◌, sym, ap, is_none}
use Rattle.tw_settings.proofs.NoReasons.{setting_if_no_reason}
use Rattle.tw_settings.proofs.reasons.why_refused.Goals as goal

pub returns-clause-exactly : goal.returns-clause-exactly
returns-clause-exactly c = setting_if_no_reason c.args.line.now ∙ ap is_none (sym c.reason_in.ensures)
