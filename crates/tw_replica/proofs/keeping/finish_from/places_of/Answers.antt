use Rattle.std.specs.Prelude.{is_some}
use Rattle.std.proofs.Common.{◌||◌, ℕ, List, ap, refl, ◌∙◌}
use Rattle.std.specs.FinMap.{get}
use Rattle.tw_numbers.specs.Assigned.{is_among}
use Rattle.tw_replica.proofs.TakingOver.{assigned_before}
use Rattle.tw_replica.proofs.keeping.finish_from.places_of.Goals as goal

pub returns : goal.returns
returns c =
    let tasks = c.args.tasks.now in
    let old = c.args.core.now.tasks in
    c.in_ok-places.ensures tasks (λ u inside. refl)
    (assigned_before _ c.args.core.now.numbers.items old tasks
    (λ u. c.in_ok-add_tasks-2.ensures u ∙ ap (λ b. b || is_some (get tasks u)) (c.in_ok-add_tasks.ensures u ∙ ap (λ (us : List (List ℕ)). is_among us u || is_some (get old u)) c.new-touched.ensures.empty)) c.requires)
