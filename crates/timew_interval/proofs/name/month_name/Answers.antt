use Rattle.std.proofs.Common.{rules, ◌≡◌, length, sym, ap, ◌∙◌}
use Rattle.timew_interval.proofs.MonthNames.{dated, name_by_text, name_good}
use Rattle.timew_interval.proofs.name.month_name.Goals as goal

pub returns-clause-name : goal.returns-clause-name
returns-clause-name c =
    let long : length c.print_basic-text.result ≡ 16 = search rules in
    name_by_text c.args.at c.print_basic-text.result c.print_basic-text.ensures.text long

pub returns-clause-good : goal.returns-clause-good
returns-clause-good c =
    let long : length c.print_basic-text.result ≡ 16 = search rules in
    name_good c.args.at (dated c.args.at (sym (ap length c.print_basic-text.ensures.text) ∙ long))
