use Rattle.std.proofs.Common.{ℕ, ◌+◌, ◌++◌, Some, sym, ap, ◌∙◌, take-append-drop}
use Rattle.std.specs.Cmp.Lexicographic.{same_text}
use Rattle.timew_month.proofs.DayMoments.{moment_in_day, not_other}
use Rattle.timew_month.proofs.read.day.Day.moment.Goals as goal

pub returns-clause-value : goal.returns-clause-value
returns-clause-value c =
    let text = c.args.text.now in
    let known = c.args.self.now.text in
    let date = c.in_ok-date.date.now in
    let clock = c.in_ok-date.clock.now in
    let cut = c.in_ok-date.ensures.cases in
    moment_in_day c.args.self.now.at c.in_ok-second.second known text date clock c.args.self.now.in_range c.args.self.now.is (sym (take-append-drop 9 text) ∙ (λ i. sym cut.0 i ++ sym cut.1 i))
    (same_text date c.in_ok-day.day.now (not_other _ c.if-ne.ensures) ∙ c.in_ok-day.ensures.cases.0) c.in_ok-second.ensures.shown c.in_ok-second.ensures.in_day
    ∙ ap (λ (n : ℕ). Some (n + c.in_ok-second.second)) (sym c.args.self.now.begins)
