use Rattle.std.proofs.Common.{arith, ap, ◌∙◌}
use Rattle.std.proofs.lemmas.Int.{ints}
use Rattle.tw_urgency.specs.Urgency.{moment_terms, term_if, has_come, age_term, due_term}
use Rattle.tw_urgency.proofs.Shares.{small_is}
use Rattle.tw_urgency.proofs.urgency.moment_terms.Goals as goal

pub returns-clause-value : goal.returns-clause-value
unfolding moment_terms
returns-clause-value c =
    let w = c.args.weights.now in
    let come = c.has_come.ensures ∙ ap (has_come c.args.now) c.moment_at.ensures.value in
    let scheduled = c.term_if.ensures.value ∙ (λ i. term_if (come i) (small_is w.scheduled c.requires.weights.scheduled i)) in
    let age = c.age_term.ensures.value ∙ ap (age_term c.args.now w) c.moment_at-2.ensures.value in
    let due = c.due_term.ensures.value ∙ (λ i. due_term c.args.now (small_is w.due c.requires.weights.due i) (c.moment_at-3.ensures.value i)) in
    omega (arith, ints, c.term_if.ensures.small, c.age_term.ensures.small, c.due_term.ensures.small, scheduled, age, due)
