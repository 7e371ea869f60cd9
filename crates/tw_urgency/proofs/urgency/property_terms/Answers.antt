use Rattle.std.proofs.Common.{arith, ap, ◌∙◌}
use Rattle.std.proofs.lemmas.Int.{ints}
use Rattle.tw_urgency.specs.Urgency.{property_terms, term_if, priority_term}
use Rattle.tw_urgency.proofs.Shares.{small_is}
use Rattle.tw_urgency.proofs.urgency.property_terms.Goals as goal

pub returns-clause-value : goal.returns-clause-value
unfolding property_terms
returns-clause-value c =
    let w = c.args.weights.now in
    let next = c.term_if.ensures.value ∙ (λ i. term_if (c.has.ensures i) (small_is w.tag_next c.requires.tag_next i)) in
    let priority = c.priority_term.ensures.value ∙ ap (priority_term w) c.get.ensures in
    let start = c.term_if-2.ensures.value ∙ (λ i. term_if (c.has-2.ensures i) (small_is w.active c.requires.active i)) in
    let project = c.term_if-3.ensures.value ∙ (λ i. term_if (c.has-3.ensures i) (small_is w.project c.requires.project i)) in
    omega (arith, ints, c.term_if.ensures.small, c.priority_term.ensures.small, c.term_if-2.ensures.small, c.term_if-3.ensures.small, next, priority, start, project)
