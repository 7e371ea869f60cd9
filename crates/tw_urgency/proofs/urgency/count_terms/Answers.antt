use Rattle.std.proofs.Common.{arith, ◌∙◌}
use Rattle.std.proofs.lemmas.Int.{ints}
use Rattle.tw_urgency.specs.Urgency.{count_terms, count_term}
use Rattle.tw_urgency.proofs.Shares.{small_is}
use Rattle.tw_urgency.proofs.urgency.count_terms.Goals as goal

pub returns-clause-value : goal.returns-clause-value
unfolding count_terms
returns-clause-value c =
    let w = c.args.weights.now in
    let tags = c.count_term.ensures.value ∙ (λ i. count_term (c.count_tags.ensures i) (small_is w.tags c.requires.tags i)) in
    let annotations = c.count_term-2.ensures.value ∙ (λ i. count_term (c.count_annotations.ensures i) (small_is w.annotations c.requires.annotations i)) in
    omega (arith, ints, c.count_term.ensures.small, c.count_term-2.ensures.small, tags, annotations)
