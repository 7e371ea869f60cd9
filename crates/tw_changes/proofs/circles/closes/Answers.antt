use Rattle.std.proofs.Common.{◌∙◌, sym, subst, IsTrue, ◌↔◌}
use Rattle.tw_urgency.specs.Paths.{Leads}
use Rattle.tw_urgency.proofs.Reaching.{reached_is_closed}
use Rattle.tw_changes.proofs.DependencyPaths.{as_leads, is_not_reached}
use Rattle.tw_changes.proofs.circles.closes.Goals as goal

pub returns-then-not-contains-clause-closes : goal.returns-then-not-contains-clause-closes
returns-then-not-contains-clause-closes c =
    is_not_reached c.args.tasks.now c.args.known.now c.reach.new.reached c.args.uuid c.args.dependency c.in_ok-reach.ensures.reached (sym c.contains.ensures ∙ c.if-not-contains.true)

pub returns-clause-closes : goal.returns-clause-closes
returns-clause-closes c =
    as_leads c.contains-is.result c.args.tasks.now c.args.dependency c.args.uuid
    (subst (λ b. IsTrue b ↔ Leads c.args.tasks.now c.args.dependency c.args.uuid) (sym c.contains-is.ensures) (c.in_ok-alone.ensures c.args.uuid))

pub returns-clause-closed : goal.returns-clause-closed
returns-clause-closed c = reached_is_closed c.args.tasks.now c.args.dependency c.in_ok-alone.alone c.in_ok-alone.ensures
