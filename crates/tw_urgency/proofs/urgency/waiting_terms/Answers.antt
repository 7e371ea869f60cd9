use Rattle.std.proofs.Common.{arith, ap, ◌∙◌}
use Rattle.std.proofs.lemmas.Int.{ints}
use Rattle.tw_urgency.specs.Urgency.{waiting_terms, term_if}
use Rattle.tw_urgency.proofs.Shares.{small_is}
use Rattle.tw_urgency.proofs.urgency.waiting_terms.Goals as goal

pub returns-clause-value : goal.returns-clause-value
unfolding waiting_terms
returns-clause-value c =
    let w = c.args.weights.now in
    let a = c.term_if.ensures.value ∙ ap (term_if c.args.blocked) (small_is w.blocked c.requires.blocked) in
    let b = c.term_if-2.ensures.value ∙ ap (term_if c.args.blocking) (small_is w.blocking c.requires.blocking) in
    let d = c.term_if-3.ensures.value ∙ ap (term_if c.args.waiting) (small_is w.waiting c.requires.waiting) in
    omega (arith, ints, c.term_if.ensures.small, c.term_if-2.ensures.small, c.term_if-3.ensures.small, a, b, d)
