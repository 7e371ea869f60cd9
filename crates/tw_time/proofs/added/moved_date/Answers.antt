use Rattle.std.proofs.Common.{sym, ap, pos, ◌+ℤ◌, ◌∙◌}
use Rattle.jiff.specs.Words.{add_months}
use Rattle.jiff.proofs.Family.{add_months-zero}
use Rattle.tw_time.specs.Civil.{date_on}
use Rattle.tw_time.proofs.added.moved_date.Goals as goal

pub returns-then-months-eq0 : goal.returns-then-months-eq0
returns-then-months-eq0 c =
    let none = c.if-months-eq0.true in
    let first = ap (λ m. add_months c.args.date (pos m)) none ∙ add_months-zero c.args.date in
    c.day_later.ensures ∙ ap (λ z. date_on (z +ℤ pos c.args.days)) (sym first)
