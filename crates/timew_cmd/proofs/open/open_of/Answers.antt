use Rattle.std.proofs.Common.{ap, sym, ◌∙◌, List, ℕ, Option, Some, append-nil}
use Rattle.timew_interval.specs.declared.interval.Interval.{Interval}
use Rattle.timew_cmd.specs.Open.{open_of, open_or, open_from_rows}
use Rattle.timew_cmd.proofs.OpenRow.{open_last}
use Rattle.timew_cmd.proofs.open.open_of.Goals as goal

pub returns-in-Some-clause-value : goal.returns-in-Some-clause-value
returns-in-Some-clause-value c = sym (ap open_of c.in_ok-last.ensures.cases.0 ∙ open_last c.in_ok-last.front.now c.in_ok-last.last.now ∙ ap (λ (e : Option ℕ). open_from_rows c.in_ok-last.front.now (open_or e c.in_ok-last.last.now)) c.in-Some.is)

pub returns-in-None-clause-value : goal.returns-in-None-clause-value
returns-in-None-clause-value c = sym (ap open_of c.in_ok-last.ensures.cases.0 ∙ open_last c.in_ok-last.front.now c.in_ok-last.last.now ∙ ap (λ (e : Option ℕ). open_from_rows c.in_ok-last.front.now (open_or e c.in_ok-last.last.now)) c.in-None.is ∙ ap (λ (l : List Interval). Some (l, c.in_ok-last.last.now)) (append-nil c.in_ok-last.front.now))
