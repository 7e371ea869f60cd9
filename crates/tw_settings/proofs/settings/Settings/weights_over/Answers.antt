use Rattle.std.proofs.Common.{◌∙◌, codes}
use Rattle.tw_urgency.proofs.Shares.{small_is}
use Rattle.tw_settings.specs.Weights.{coefficient}
use Rattle.tw_settings.proofs.settings.Settings.weights_over.Goals as goal

pub returns-clause-value : goal.returns-clause-value
returns-clause-value c =
    let w = c.args.usual.now in
    let s = c.requires in
    let pairs = c.args.self.now in
    λ i. record {
      tag_next = (small_is c.coefficient.result c.coefficient.ensures.small ∙ c.coefficient.ensures.value ∙ (λ j. coefficient (codes "urgency.user.tag.next.coefficient") (small_is w.tag_next s.tag_next j) pairs)) i;
      due = (small_is c.coefficient-2.result c.coefficient-2.ensures.small ∙ c.coefficient-2.ensures.value ∙ (λ j. coefficient (codes "urgency.due.coefficient") (small_is w.due s.due j) pairs)) i;
      blocking = (small_is c.coefficient-3.result c.coefficient-3.ensures.small ∙ c.coefficient-3.ensures.value ∙ (λ j. coefficient (codes "urgency.blocking.coefficient") (small_is w.blocking s.blocking j) pairs)) i;
      high = (small_is c.coefficient-4.result c.coefficient-4.ensures.small ∙ c.coefficient-4.ensures.value ∙ (λ j. coefficient (codes "urgency.uda.priority.H.coefficient") (small_is w.high s.high j) pairs)) i;
      medium = (small_is c.coefficient-5.result c.coefficient-5.ensures.small ∙ c.coefficient-5.ensures.value ∙ (λ j. coefficient (codes "urgency.uda.priority.M.coefficient") (small_is w.medium s.medium j) pairs)) i;
      low = (small_is c.coefficient-6.result c.coefficient-6.ensures.small ∙ c.coefficient-6.ensures.value ∙ (λ j. coefficient (codes "urgency.uda.priority.L.coefficient") (small_is w.low s.low j) pairs)) i;
      scheduled = (small_is c.coefficient-7.result c.coefficient-7.ensures.small ∙ c.coefficient-7.ensures.value ∙ (λ j. coefficient (codes "urgency.scheduled.coefficient") (small_is w.scheduled s.scheduled j) pairs)) i;
      active = (small_is c.coefficient-8.result c.coefficient-8.ensures.small ∙ c.coefficient-8.ensures.value ∙ (λ j. coefficient (codes "urgency.active.coefficient") (small_is w.active s.active j) pairs)) i;
      age = (small_is c.coefficient-9.result c.coefficient-9.ensures.small ∙ c.coefficient-9.ensures.value ∙ (λ j. coefficient (codes "urgency.age.coefficient") (small_is w.age s.age j) pairs)) i;
      annotations = (small_is c.coefficient-10.result c.coefficient-10.ensures.small ∙ c.coefficient-10.ensures.value ∙ (λ j. coefficient (codes "urgency.annotations.coefficient") (small_is w.annotations s.annotations j) pairs)) i;
      tags = (small_is c.coefficient-11.result c.coefficient-11.ensures.small ∙ c.coefficient-11.ensures.value ∙ (λ j. coefficient (codes "urgency.tags.coefficient") (small_is w.tags s.tags j) pairs)) i;
      project = (small_is c.coefficient-12.result c.coefficient-12.ensures.small ∙ c.coefficient-12.ensures.value ∙ (λ j. coefficient (codes "urgency.project.coefficient") (small_is w.project s.project j) pairs)) i;
      blocked = (small_is c.coefficient-13.result c.coefficient-13.ensures.small ∙ c.coefficient-13.ensures.value ∙ (λ j. coefficient (codes "urgency.blocked.coefficient") (small_is w.blocked s.blocked j) pairs)) i;
      waiting = (small_is c.coefficient-14.result c.coefficient-14.ensures.small ∙ c.coefficient-14.ensures.value ∙ (λ j. coefficient (codes "urgency.waiting.coefficient") (small_is w.waiting s.waiting j) pairs)) i;
      age_max = c.age_max.ensures.value i;
    }
