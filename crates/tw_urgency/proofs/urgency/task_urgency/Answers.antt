use Rattle.std.proofs.Common.{arith, ◌∙◌}
use Rattle.std.proofs.lemmas.Int.{ints}
use Rattle.tw_urgency.specs.Urgency.{task_urgency, waiting_terms}
use Rattle.tw_urgency.proofs.urgency.task_urgency.Goals as goal

pub returns-clause-value : goal.returns-clause-value
unfolding task_urgency
returns-clause-value c =
    let waiting = c.waiting_terms.ensures.value ∙ (λ i. waiting_terms (c.is_blocked.ensures i) c.args.is_blocking (c.is_waiting.ensures i) c.args.weights.now) in
    omega (
      arith,
      ints,
      c.property_terms.ensures.small,
      c.count_terms.ensures.small,
      c.moment_terms.ensures.small,
      c.waiting_terms.ensures.small,
      c.property_terms.ensures.value,
      c.count_terms.ensures.value,
      c.moment_terms.ensures.value,
      waiting,
    )
