use Rattle.std.proofs.Common.{arith, sym, ap, subst, ◌∙◌, List, ℕ, []}
use Rattle.std.specs.Option.{option_copied}
use Rattle.std.proofs.lemmas.List.{nil_from_length}
use Rattle.tw_urgency.specs.Paths.{Visits}
use Rattle.tw_urgency.proofs.Reaching.{IsHalfway, at_the_end, closed_at_the_end, halfway_further, halfway_past, halfway_begun, less_visits}
use Rattle.tw_urgency.proofs.paths.reach.Goals as goal

pub loop-uuid-init : goal.loop-uuid-init
loop-uuid-init c =
    halfway_begun c.args.tasks.now c.args.from c.args.reached.now c.visit.new.visited c.visit.new.to_visit.items c.requires.closed c.in_ok-visit.ensures.visited
    (subst (λ xs. Visits c.args.tasks.now c.args.reached.now c.visit.new.visited xs c.visit.new.to_visit.items) c.new-to_visit.ensures.items c.in_ok-visit.ensures.to_visit)

pub loop-uuid-smaller-in-Continue-branch-2 : goal.loop-uuid-smaller-in-Continue-branch-2
loop-uuid-smaller-in-Continue-branch-2 c =
    let less = less_visits c.args.tasks.now c.loop-uuid.reached c.loop-uuid.to_visit.items c.pop.new.self.items c.in-Some.uuid c.in-Some.ensures.items in
    omega (arith, less, c.in_ok-visit_all.ensures.visits_left)

pub loop-uuid-preserved-in-Continue-branch-2 : goal.loop-uuid-preserved-in-Continue-branch-2
loop-uuid-preserved-in-Continue-branch-2 c =
    halfway_further c.args.tasks.now c.args.from c.args.reached.now c.loop-uuid.reached c.visit_all.new.visited c.loop-uuid.to_visit.items c.pop.new.self.items c.visit_all.new.to_visit.items c.in-Some.uuid c.in-Some-get.task.now
    c.requires.closed c.loop-uuid.invariant c.in-Some.ensures.items (sym c.get.ensures ∙ ap option_copied c.in-Some-get.is) c.in_ok-visit_all.ensures.visited c.in_ok-visit_all.ensures.to_visit

pub loop-uuid-smaller : goal.loop-uuid-smaller
loop-uuid-smaller c = less_visits c.args.tasks.now c.loop-uuid.reached c.loop-uuid.to_visit.items c.pop.new.self.items c.in-Some.uuid c.in-Some.ensures.items

pub loop-uuid-preserved : goal.loop-uuid-preserved
loop-uuid-preserved c =
    halfway_past c.args.tasks.now c.args.from c.args.reached.now c.loop-uuid.reached c.loop-uuid.to_visit.items c.pop.new.self.items c.in-Some.uuid
    c.loop-uuid.invariant c.in-Some.ensures.items (sym c.get.ensures ∙ ap option_copied c.in_default-get.is)

pub returns-clause-reached : goal.returns-clause-reached
returns-clause-reached c =
    at_the_end c.args.tasks.now c.args.from c.args.reached.now c.loop-uuid.reached
    (subst (λ xs. IsHalfway c.args.tasks.now c.args.from c.args.reached.now c.loop-uuid.reached xs) (nil_from_length c.loop-uuid.to_visit.items (omega (arith, c.in_default.ensures.cases.0))) c.loop-uuid.invariant)

pub returns-clause-closed : goal.returns-clause-closed
returns-clause-closed c =
    closed_at_the_end c.args.tasks.now c.args.from c.args.reached.now c.loop-uuid.reached
    (subst (λ xs. IsHalfway c.args.tasks.now c.args.from c.args.reached.now c.loop-uuid.reached xs) (nil_from_length c.loop-uuid.to_visit.items (omega (arith, c.in_default.ensures.cases.0))) c.loop-uuid.invariant)
