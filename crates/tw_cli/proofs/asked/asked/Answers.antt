use Rattle.std.proofs.Common.{ap}
use Rattle.tw_words.specs.Lines.{Parts}
use Rattle.tw_cli.proofs.Asking.{settings_refused, word_refused, line_taken}
use Rattle.tw_cli.proofs.asked.asked.Goals as goal

pub returns-in_err-settings : goal.returns-in_err-settings
returns-in_err-settings c =
    settings_refused c.args.words.now c.args.settings.now c.args.now c.args.zone c.in_ok-line.line c.as_slice.result.now c.line.inside.overrides.items c.in_ok-line.ensures c.as_slice.ensures.value (ap (λ (p : Parts). p.overrides) c.line.view_is)
    c.in_err-settings.field-0.0 c.from_residual-in_err-settings.result c.from_residual-in_err-settings.ensures.1 c.in_err-settings.ensures

pub returns-in_err-filter : goal.returns-in_err-filter
returns-in_err-filter c =
    word_refused c.args.words.now c.args.settings.now c.args.now c.args.zone c.in_ok-line.line c.as_slice.result.now c.line.inside.overrides.items c.in_ok-line.ensures c.as_slice.ensures.value (ap (λ (p : Parts). p.overrides) c.line.view_is)
    c.in_ok-settings.settings c.in_ok-settings.ensures c.in_err-filter.field-0.0 c.from_residual-in_err-filter.result c.from_residual-in_err-filter.ensures.1 c.in_err-filter.ensures

pub returns : goal.returns
returns c =
    line_taken c.args.words.now c.args.settings.now c.args.now c.args.zone c.in_ok-line.line c.as_slice.result.now c.line.inside.overrides.items c.in_ok-line.ensures c.as_slice.ensures.value (ap (λ (p : Parts). p.overrides) c.line.view_is)
    c.in_ok-settings.settings c.in_ok-settings.ensures c.in_ok-filter.filter c.job_by.result c.in_ok-filter.ensures c.job_by.ensures
