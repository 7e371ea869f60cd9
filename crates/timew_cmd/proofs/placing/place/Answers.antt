use Rattle.std.proofs.Common.{List, ℕ, subst}
use Rattle.timew_interval.specs.Edit.{edited}
use Rattle.timew_cmd.specs.Placing.{place}
use Rattle.timew_cmd.specs.Planned.{Answers}
use Rattle.timew_cmd.proofs.placing.place.Goals as goal

pub returns-clause-placed : goal.returns-clause-placed
returns-clause-placed c = subst (λ (l : List ℕ). Answers (λ e. edited e c.args.rows.now) c.place_without.result (place c.args.adjust c.args.new l c.args.rows.now)) c.in_ok-chosen.ensures c.place_without.ensures.placed
