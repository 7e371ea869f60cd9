use Rattle.std.proofs.Common.{List, ℕ, Result, ap, sym, subst}
use Rattle.timew_interval.specs.declared.interval.Interval.{Interval}
use Rattle.timew_interval.specs.Edit.{edited}
use Rattle.timew_cmd.specs.declared.error.TimewError.{TimewError}
use Rattle.timew_cmd.specs.Commands.Split.{split}
use Rattle.timew_cmd.specs.Planned.{Answers}
use Rattle.timew_words.specs.Results.{◌>>=◌}
use Rattle.timew_cmd.proofs.commands.split.split.Goals as goal

pub returns-clause-split : goal.returns-clause-split
returns-clause-split c =
    let ids = c.args.ids.now in
    let rows = c.args.rows.now in
    subst (λ (r : Result (List Interval) TimewError). Answers (λ e. edited e rows) c.split_chosen.result r)
    (sym (ap (λ (r : Result ℕ TimewError). r >>= λ n. split ids rows c.args.now) c.in_ok-checked.ensures))
    (subst (λ (l : List ℕ). Answers (λ e. edited e rows) c.split_chosen.result (split l rows c.args.now)) c.in_ok-chosen.ensures c.split_chosen.ensures.split)
