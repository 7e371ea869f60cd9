use Rattle.std.proofs.Common.{◌≡◌, true, ap, ◌∙◌, rules}
use Rattle.timew_interval.specs.MonthName.{is_month_name}
use Rattle.timew_interval.proofs.MonthForm.{month_utf8}
use Rattle.timew_month.proofs.body.read_name.Goals as goal

pub returns-in_ok-from_str-in-Ok-clause-name : goal.returns-in_ok-from_str-in-Ok-clause-name
returns-in_ok-from_str-in-Ok-clause-name c =
    let is : is_month_name c.args.name.now ≡ true = search rules in
    ap is_month_name (c.in_ok-from_str-in-Ok.ensures ∙ c.in-Ok.ensures.cases.0) ∙ is

pub returns-in-Err-clause-value : goal.returns-in-Err-clause-value
returns-in-Err-clause-value c =
    let is : is_month_name c.args.name.now ≡ true = search rules in
    absurd (c.in-Err.ensures.cases.0 (month_utf8 c.args.name.now is))
